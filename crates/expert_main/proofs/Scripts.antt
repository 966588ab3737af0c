-- Lemmas on the pieces of a script, of which the first ones were read.
use Rattle.std.proofs.Common.{◌≡◌, ℕ, ◌-◌, ◌+◌, ◌≤◌, ◌<◌, List, [], ◌∷◌, ◌++◌, Option, None, Some}
use Rattle.std.proofs.Common.{IfSome, Ok, Err, refl, sym, ap, ◌∙◌, subst, arith, length}
use Rattle.std.proofs.Common.{append_assoc, append-nil}
use Rattle.std.specs.declared.result.Result.{Result}
use Rattle.std.specs.Prelude.{Contains}
use Rattle.std.specs.List.{AllByRecursion}
use Rattle.std.proofs.lemmas.List.Elements.{Contains-append_left, Contains-append_right}
use Rattle.expert_io.specs.Told.{File}
use Rattle.expert_main.specs.Rans.{Ran}
use Rattle.expert_main.specs.Scripts.{AreOf, IsOwn, before, fitted, gathered, text_of, total}
use Rattle.expert_main.specs.Refusals.{IsOfPieces}
use Rattle.expert_main.specs.Words.{Piece}
use Rattle.expert_main.specs.declared.refusal.Refusal.{Refusal}
use Rattle.expert_main.specs.declared.refusal.Refusal.TheVariants as refusal

-- texts stand before those that stand before others
before_more : (texts : List (List ℕ)) (text : List ℕ) (others : Result (List (List ℕ)) Ran)
    → before texts (before (text ∷ []) others) ≡ before (texts ++ text ∷ []) others
before_more texts text (Err ran) = refl
before_more texts text (Ok others) = ap Ok (sym (append_assoc texts (text ∷ []) others))

-- a piece more was read
pub gathered_more : (told : Option (List File)) (all rest behind : List Piece) (piece : Piece)
    (script : List (List ℕ)) (text : List ℕ) (limit room : ℕ) → rest ≡ piece ∷ behind
    → IfSome told (λ files. gathered files all limit ≡ before script (gathered files rest room))
    → IfSome told (λ files. fitted room (text_of files piece) ≡ Ok text)
    → IfSome told (λ files. gathered files all limit
    ≡ before (script ++ text ∷ []) (gathered files behind (room - length text)))
gathered_more None all rest behind piece script text limit room r before is = tt
gathered_more (Some files) all rest behind piece script text limit room r before is =
    before
    ∙ (rw (r, is) (before_more script text (gathered files behind (room - length text))))

-- or a piece ends the run
pub gathered_ends : (told : Option (List File)) (all rest behind : List Piece) (piece : Piece)
    (script : List (List ℕ)) (limit room : ℕ) (ran : Ran) → rest ≡ piece ∷ behind
    → IfSome told (λ files. gathered files all limit ≡ before script (gathered files rest room))
    → IfSome told (λ files. fitted room (text_of files piece) ≡ Err ran)
    → IfSome told (λ files. gathered files all limit ≡ Err ran)
gathered_ends None all rest behind piece script limit room ran r before is = tt
gathered_ends (Some files) all rest behind piece script limit room ran r before is =
    before ∙ (rw (r, is) refl)

-- or none is left
pub gathered_all : (told : Option (List File)) (all rest : List Piece) (script : List (List ℕ))
    (limit room : ℕ) → rest ≡ []
    → IfSome told (λ files. gathered files all limit ≡ before script (gathered files rest room))
    → IfSome told (λ files. gathered files all limit ≡ Ok script)
gathered_all None all rest script limit room r before = tt
gathered_all (Some files) all rest script limit room r before =
    before ∙ (rw r (ap Ok (append-nil script)))

pub are_more : (all rest behind : List Piece) (piece : Piece) (script : List (List ℕ))
    (text : List ℕ) → rest ≡ piece ∷ behind
    → ((others : List (List ℕ)) → AreOf rest others → AreOf all (script ++ others))
    → IsOwn piece text
    → (others : List (List ℕ)) → AreOf behind others → AreOf all ((script ++ text ∷ []) ++ others)
are_more all rest behind piece script text r before own others are =
    rw (append_assoc script (text ∷ []) others)
    (before (text ∷ others) (rw r (own, are)))

pub are_all : (all rest : List Piece) (script : List (List ℕ)) → rest ≡ []
    → ((others : List (List ℕ)) → AreOf rest others → AreOf all (script ++ others))
    → AreOf all script
are_all all rest script r before = subst (AreOf all) (append-nil script) (before [] (rw r tt))

pub total_push : (texts : List (List ℕ)) (text : List ℕ)
    → total (texts ++ text ∷ []) ≡ total texts + length text
total_push [] text = omega arith
total_push (first ∷ texts) text = let h = total_push texts text in omega (arith, h)

-- texts of so many bytes together are each so short
pub each_short : (limit bound : ℕ) (texts : List (List ℕ)) → limit < bound
    → total texts ≤ limit → AllByRecursion (λ text. length text < bound) texts
each_short limit bound [] above h = tt
each_short limit bound (text ∷ texts) above h =
    (omega (arith, h, above), each_short limit bound texts above (omega (arith, h)))

of_first : (rest behind : List Piece) (piece found : Piece) → rest ≡ piece ∷ behind
    → Contains (piece ∷ []) found → Contains rest found
of_first rest behind piece found r h =
    subst (λ (pieces : List Piece). Contains pieces found) (sym r)
    (Contains-append_left (piece ∷ []) behind found h)

-- what a piece is refused for, the script is
pub blames_piece : (all rest behind : List Piece) (piece : Piece) (why : Refusal)
    → rest ≡ piece ∷ behind → ((found : Piece) → Contains rest found → Contains all found)
    → IsOfPieces (piece ∷ []) why → IsOfPieces all why
blames_piece all rest behind piece refusal.Usage r names h = h
blames_piece all rest behind piece refusal.DatabaseTooLarge r names h = tt
blames_piece all rest behind piece refusal.DatabaseFile r names h = tt
blames_piece all rest behind piece refusal.ScriptTooLarge r names h = tt
blames_piece all rest behind piece refusal.TooManyTables r names h = tt
blames_piece all rest behind piece refusal.TooManyCandidates r names h = tt
blames_piece all rest behind piece (refusal.CannotRead name) r names h =
    names _ (of_first rest behind piece _ r h)
blames_piece all rest behind piece refusal.CannotWrite r names h = h
blames_piece all rest behind piece refusal.Memory r names h = tt

pub names_later : (all rest behind : List Piece) (piece : Piece) → rest ≡ piece ∷ behind
    → ((found : Piece) → Contains rest found → Contains all found)
    → (found : Piece) → Contains behind found → Contains all found
names_later all rest behind piece r names found h =
    names found (subst (λ (pieces : List Piece). Contains pieces found) (sym r)
    (Contains-append_right (piece ∷ []) behind found h))
