-- The laws of terms.
use Rattle.std.specs.List.{filter}
use Rattle.sql_meaning.specs.Statements.{exprs_of}
use Rattle.sql_meaning.specs.Conjuncts.{may_derive}
use Rattle.sql_meaning.specs.TermLaws.{TermsSayTheirConjuncts, LinkedColumnsAreEqual}
use Rattle.sql_meaning.specs.TermLaws.{DerivedTermsHold}
use Rattle.sql_meaning.proofs.Terms.{serves_is}
use Rattle.sql_meaning.proofs.Links.{linked_equal, derived_holds}
use Rattle.sql_meaning.proofs.TermsHold.{fits_filter, chosen_all}

pub terms_say_their_conjuncts : TermsSayTheirConjuncts
terms_say_their_conjuncts =
    λ item site collation kind e serves env params.
    serves_is env params item site collation kind e serves

pub linked_columns_are_equal : LinkedColumnsAreEqual
linked_columns_are_equal =
    λ schema items es fits c d linked env params hold.
    linked_equal schema items es env params fits hold c d linked

pub derived_terms_hold : DerivedTermsHold
derived_terms_hold =
    λ schema bound item t fits derives env params hold.
    derived_holds schema bound.items (exprs_of (filter (may_derive bound item) bound.conjuncts))
    env params (fits_filter schema bound.items (may_derive bound item) bound.conjuncts fits)
    (chosen_all (may_derive bound item) params bound.conjuncts env hold) item t derives
