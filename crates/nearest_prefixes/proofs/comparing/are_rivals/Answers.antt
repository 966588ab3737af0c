use Rattle.access_paths.specs.Settings.{setting_of}
use Rattle.nearest_prefixes.proofs.NearerSeen.{rivals_shown, no_rivals}
use Rattle.nearest_prefixes.proofs.comparing.are_rivals.Goals as goal

pub returns-then-left-right : goal.returns-then-left-right
returns-then-left-right c = λ p q h k.
    rivals_shown (setting_of c.args.setting.now) p q c.args.left.now c.args.right.now h k _ _
    c.if-left-right.true c.order_number.ensures c.order_number-then-left-right.ensures

pub returns-else-left-right : goal.returns-else-left-right
returns-else-left-right c = λ p q h k.
    no_rivals (setting_of c.args.setting.now) p q c.args.left.now c.args.right.now h k
    c.if-left-right.false
