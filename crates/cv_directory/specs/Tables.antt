-- What the tables of a directory hold.
use Rattle.std.specs.Prelude.{ℕ, zero, suc, ◌+◌, min, nat_eq, Bool, ◌==◌, if◌then◌else◌, List, [], ◌∷◌, length, map, slice_index_or, is_some, option_map, Option, Some, None}
use Rattle.std.specs.declared.hash.FoldHasher.{FoldHasher}
use Rattle.std.specs.declared.hash.BuildHasherDefault.{BuildHasherDefault}
use Rattle.std.specs.HashMap.{get, HashMap}
use Rattle.cv_pool.specs.KindTree.{KindTree}
use Rattle.cv_pool.specs.declared.node.NodeId.{NodeId}
use Rattle.cv_syntax.specs.PoolTrees.{tree_at}
use Rattle.cv_directory.specs.declared.directory.Directory.{Directory}
use Rattle.cv_directory.specs.declared.site.Entry.{Entry}
use Rattle.cv_directory.specs.declared.site.Site.{Site}
use Rattle.cv_syntax_trees.specs.declared.sites.sort.Sort.{Sort}
use Rattle.cv_directory.specs.Definitions.{Definition, Entries, definition_at, first_in, first_other, most}
use Rattle.cv_syntax_trees.specs.sites.Sites.{SitesView, Variable, first_of}

abbrev pub Map : Type 0 → Type 0
Map X = HashMap ℕ X (BuildHasherDefault FoldHasher)

abbrev pub definition_in : List KindTree → List (ℕ × ℕ) → ℕ → NodeId → Sort → Definition
definition_in trees rs p node S = definition_at rs p (tree_at trees (Some node)) S

abbrev pub definition_of : List KindTree → Site → Definition
definition_of trees s = definition_in trees s.replications.items s.place s.node s.sort

-- what a table has of a name

abbrev pub nothing : Entry
nothing = record { site = None; count = 0; other = None; index = None }

abbrev pub entry_at : List Entry → ℕ → Entry
entry_at es x = slice_index_or es x nothing

abbrev pub firsts : List KindTree → List Entry → ℕ → Option Definition
firsts trees es x = option_map (definition_of trees) (entry_at es x).site

abbrev pub counts : List Entry → ℕ → ℕ
counts es x = (entry_at es x).count

abbrev pub others : List Entry → ℕ → Option ℕ
others es x = (entry_at es x).other

abbrev pub indices : List Entry → ℕ → Option ℕ
indices es i = (entry_at es i).index

-- the variables with no type
abbrev pub untyped_of : Map Bool → ℕ → Bool
untyped_of m x = is_some (get nat_eq m x)

-- something more of a name, unless there is something
abbrev pub noted : {A : Type 0} → (ℕ → Option A) → ℕ → A → ℕ → Option A
noted f x a y = first_of (f y) (if x == y then Some a else None)

abbrev pub counted : (ℕ → ℕ) → ℕ → ℕ → ℕ
counted f x y = if x == y then min (f y + 1) most else f y

-- what a directory says, in a pool with these trees
abbrev pub entries_in : List KindTree → Directory → Entries
entries_in trees d = record {
  first = firsts trees d.entries.items;
  count = counts d.entries.items;
  other = others d.entries.items;
  index = indices d.entries.items;
}

-- of variables and indices alone, without what stands in the pool
abbrev pub seen_site : Site → Variable
seen_site s = record { parameters = map (λ (r : ℕ × ℕ). r.1) s.replications.items; sort = s.sort }

abbrev pub seen : Directory → SitesView
seen d = record {
  variable = λ x. option_map seen_site (entry_at d.entries.items x).site;
  index = indices d.entries.items;
  untyped = untyped_of d.untyped;
}

-- as they are gathered

abbrev pub no_entries : Entries
no_entries = record { first = λ x. None; count = λ x. 0; other = λ x. None; index = λ i. None }

abbrev pub no_index : ℕ → Option ℕ
no_index i = None

-- one definition, of one variable
abbrev pub only : ℕ → Definition → ℕ → List Definition
only x d y = if x == y then d ∷ [] else []

-- so many more, as far as counts go
abbrev pub grown : ℕ → ℕ → ℕ
grown c zero = c
grown c (suc n) = grown (min (c + 1) most) n

-- with further definitions and indices, behind those that are there
abbrev pub with_entries : (large : ℕ → Bool) → Entries → (ℕ → List Definition) → (ℕ → Option ℕ) → Entries
with_entries large e ds is = record {
  first = λ x. first_of (e.first x) (first_in (ds x));
  count = λ x. grown (e.count x) (length (ds x));
  other = λ x. first_of (e.other x) (first_other large (ds x));
  index = λ i. first_of (e.index i) (is i);
}
