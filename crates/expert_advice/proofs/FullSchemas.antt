-- A schema with all candidates is the one that is meant, and what fits a schema fits it still.
use Rattle.std.proofs.Common.{◌≡◌, ℕ, Bool, true, false, cond, List, [], ◌∷◌, ◌++◌, map, length}
use Rattle.std.proofs.Common.{drop, refl, ap, sym, ◌∙◌, subst}
use Rattle.std.proofs.Common.{append-nil, append_assoc, take-append-drop}
use Rattle.std.proofs.lemmas.List.{map-append}
use Rattle.sql_meaning.specs.Schemas as plain
use Rattle.sql_meaning.specs.Statements.{Bound}
use Rattle.sql_meaning.specs.TermLists.{terms_of}
use Rattle.plan_choice.specs.Advice.{all_scans}
use Rattle.plan_choice.specs.Scans as asked
use Rattle.plan_choice.specs.Candidates.{is_served, add_list, add_lists, with_candidates, lists_of}
use Rattle.schema_model.specs.PlainSchemas.{plain_index, plain_schema, plain_table}
use Rattle.schema_model.specs.Schemas.{Schema, with_index}
use Rattle.schema_model.specs.declared.indexes.Index.{Index}
use Rattle.schema_model.specs.declared.tables.Table.{Table}
use Rattle.sql_bound.specs.Fits.{Fits}
use Rattle.sql_bound.proofs.Fitting.{fits_with_indexes}
use Rattle.candidate_index.proofs.Additions.{drop_first}
use Rattle.candidate_index.proofs.ServedLists.{unusable_serve_nothing}
use Rattle.expert_advice.specs.Full as own
use Rattle.expert_advice.specs.Full.{IsFull, FullSchemasAreMeant, StatementsStillFit, TermsStay}
use Rattle.expert_advice.proofs.Additions.{with_none}

-- one list begins with the other
record Begins (xs ys : List plain.Index) : Type 0 where
  rest : List plain.Index
  is : ys ≡ xs ++ rest

begins_on : (xs ys zs : List plain.Index) → Begins xs ys → Begins ys zs → Begins xs zs
begins_on xs ys zs a b = record {
  rest = a.rest ++ b.rest;
  is = b.is ∙ ap (λ (l : List plain.Index). l ++ b.rest) a.is ∙ append_assoc xs a.rest b.rest;
}

list_case : (known : List plain.Index) (index : plain.Index) (b : Bool)
    → Begins known (cond b known (known ++ index ∷ []))
list_case known index true = record { rest = []; is = sym (append-nil known) }
list_case known index false = record { rest = index ∷ []; is = refl }

lists_begin : (t : ℕ) (lists : List (List plain.IndexColumn)) (known : List plain.Index)
    → Begins known (add_lists t known lists)
lists_begin t [] known = record { rest = []; is = sym (append-nil known) }
lists_begin t (cs ∷ lists) known =
    begins_on known (add_list t known cs) (add_lists t (add_list t known cs) lists)
    (list_case known (record { table = t; columns = cs }) (is_served t cs known))
    (lists_begin t lists (add_list t known cs))

scans_begin : (ss : List asked.Scan) (known : List plain.Index)
    → Begins known (with_candidates known ss)
scans_begin [] known = record { rest = []; is = sym (append-nil known) }
scans_begin (s ∷ ss) known =
    let next = add_lists s.table known (lists_of s) in
    begins_on known next (with_candidates next ss) (lists_begin s.table (lists_of s) known)
    (scans_begin ss next)

behind : (xs ys : List plain.Index) → Begins xs ys → xs ++ drop (length xs) ys ≡ ys
behind xs ys b =
    ap (λ (l : List plain.Index). xs ++ drop (length xs) l) b.is
    ∙ ap (λ (l : List plain.Index). xs ++ l) (drop_first xs b.rest) ∙ sym b.is

pub full_are_meant : FullSchemasAreMeant
full_are_meant = λ schema full candidates r e f g h.
    let ours = plain_schema schema in
    let scans = all_scans r in
    let with_plain : List plain.Index → plain.Schema =
    λ is. record { tables = ours.tables; indexes = is } in
    ap plain_schema e
    ∙ ap with_plain
    (map-append plain_index schema.indexes candidates
    ∙ ap (λ (is : List plain.Index). ours.indexes ++ is)
    (h ∙ unusable_serve_nothing schema scans g)
    ∙ behind ours.indexes (with_candidates ours.indexes scans) (scans_begin scans ours.indexes))
    ∙ ap (λ (s : plain.Schema). record {
      tables = s.tables;
      indexes = with_candidates s.indexes scans;
    }) (sym f)

-- what fits a schema fits it with more indexes
fits_more : (bound : Bound) (needs : List (List ℕ)) (cs : List Index) (schema : Schema)
    → Fits (plain_schema schema) bound needs
    → Fits (plain_schema (own.with_candidates schema cs)) bound needs
fits_more bound needs [] schema f =
    subst (λ (s : Schema). Fits (plain_schema s) bound needs) (sym (with_none schema)) f
fits_more bound needs (c ∷ cs) schema f =
    subst (λ (is : List Index). Fits (plain_schema (record {
      tables = schema.tables;
      unread = schema.unread;
      indexes = is;
    })) bound needs) (append_assoc schema.indexes (c ∷ []) cs)
    (fits_more bound needs cs (with_index schema c) (fits_with_indexes schema c bound needs f))

full_is : (schema full : Schema) → IsFull schema full
    → plain_schema (own.with_candidates schema (drop (length schema.indexes) full.indexes))
    ≡ plain_schema full
full_is schema full h =
    let more = drop (length schema.indexes) full.indexes in
    ap (λ (ts : List Table). plain_schema (record {
      tables = ts;
      unread = schema.unread;
      indexes = schema.indexes ++ more;
    })) (sym h.tables)
    ∙ ap (λ (is : List Index). plain_schema (record {
      tables = full.tables;
      unread = schema.unread;
      indexes = is;
    }))
    (ap (λ (is : List Index). is ++ more) (sym h.own)
    ∙ take-append-drop (length schema.indexes) full.indexes)

pub still_fit : StatementsStillFit
still_fit = λ schema full bound needs h f.
    subst (λ (s : plain.Schema). Fits s bound needs) (full_is schema full h)
    (fits_more bound needs (drop (length schema.indexes) full.indexes) schema f)

-- terms are made of tables alone
pub terms_stay : TermsStay
terms_stay = λ schema full bound h.
    ap (λ (ts : List Table). terms_of (record {
      tables = map plain_table ts;
      indexes = (plain_schema schema).indexes;
    }) bound) h.tables
