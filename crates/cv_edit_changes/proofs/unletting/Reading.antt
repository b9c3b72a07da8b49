-- The directory of a well-formed game lists its sites.
use Rattle.std.proofs.Common.{◌≡◌, ℕ, Bool, List, ap, ◌∙◌}
use Rattle.std.specs.Prelude.{option_map}
use Rattle.cv_pool.specs.KindTree.{KindTree}
use Rattle.cv_syntax_trees.specs.Declarations.{Declaration}
use Rattle.cv_syntax_trees.specs.Tree.{Tree}
use Rattle.cv_directory.specs.declared.directory.Directory.{Directory}
use Rattle.cv_directory.specs.Definitions.{Entries, entries_of}
use Rattle.cv_directory.specs.Tables.{entries_in}
use Rattle.cv_scope_rules.specs.Phrases.{IsWellFormed}
use Rattle.cv_derive_facts.specs.Definitions.{definition_entry}
use Rattle.cv_derive_facts.proofs.Entries.{count_sites, first_sites}
use Rattle.cv_edit_changes.specs.unletting.Assigned.{IsRead}

pub is_read : (ds : List Declaration) (large : ℕ → Bool) (trees : List KindTree) (game : Tree) (d : Directory) → IsWellFormed ds game → entries_in trees d ≡ entries_of large game → IsRead trees game d
is_read ds large trees game d w e = record {
  first = λ x. ap (λ (i : Entries). option_map definition_entry (i.first x)) e ∙ first_sites ds large game x w;
  count = λ x. ap (λ (i : Entries). i.count x) e ∙ count_sites ds large game x w;
  phrase = w.phrase;
}
