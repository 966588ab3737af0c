use Rattle.sql_meaning.proofs.BranchTerms.{union_of_terms}
use Rattle.sql_meaning.proofs.ListedTerms.{rowid_of_terms, seek_of_terms}
use Rattle.sql_meaning.proofs.OfferedPaths.{scan_offer, index_scan_offer}
use Rattle.sql_meaning.proofs.offering.chosen_paths_are_offers.Goals as goal

pub returns-clause-table_scans : goal.returns-clause-table_scans
returns-clause-table_scans c = scan_offer

pub returns-clause-index_scans : goal.returns-clause-index_scans
returns-clause-index_scans c = index_scan_offer

pub returns-clause-rowid_seeks : goal.returns-clause-rowid_seeks
returns-clause-rowid_seeks c = rowid_of_terms

pub returns-clause-index_seeks : goal.returns-clause-index_seeks
returns-clause-index_seeks c = seek_of_terms

pub returns-clause-unions : goal.returns-clause-unions
returns-clause-unions c = union_of_terms
