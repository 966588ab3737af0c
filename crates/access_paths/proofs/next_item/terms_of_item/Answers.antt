use Rattle.std.proofs.Common.{sym}
use Rattle.std.proofs.lemmas.List.{get_or-map}
use Rattle.schema_model.specs.PlainSchemas.{plain_schema}
use Rattle.sql_bound.specs.Statements.{bound_of}
use Rattle.where_terms.specs.Views.{item_terms_of}
use Rattle.plan_choice.specs.Settings.{no_terms}
use Rattle.access_paths.proofs.ItemLookups.{terms_there, terms_ready}
use Rattle.access_paths.proofs.next_item.terms_of_item.Goals as goal

pub bounds-setting-item : goal.bounds-setting-item
bounds-setting-item c =
    let s = c.args.setting.now in
    terms_there (plain_schema s.schema.now) (bound_of s.bound.now) s.terms.now.items.now
    c.requires.ready.terms c.args.item c.requires.item

pub returns-clause-terms : goal.returns-clause-terms
returns-clause-terms c =
    let s = c.args.setting.now in
    sym
    (get_or-map item_terms_of s.terms.now.items.now c.args.item c.index-setting-item.result no_terms
    (terms_there (plain_schema s.schema.now) (bound_of s.bound.now) s.terms.now.items.now
    c.requires.ready.terms c.args.item c.requires.item))

pub returns-clause-ready : goal.returns-clause-ready
returns-clause-ready c =
    let s = c.args.setting.now in
    terms_ready (plain_schema s.schema.now) (bound_of s.bound.now) s.terms.now.items.now
    c.requires.ready.terms c.args.item c.index-setting-item.result c.requires.ready.marked
    c.requires.item
