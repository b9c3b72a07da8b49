-- What a table has of each variable of a game: how often the game uses it, and how it defines it. This profile's own.
use Rattle.std.specs.Prelude.{◌≡◌, ℕ, ◌+◌, ◌==◌, if◌then◌else◌, List, [], ◌∷◌, slice_index_or, Option, Some, None}
use Rattle.cv_syntax_trees.specs.declared.head.Head.{Head}
use Rattle.cv_syntax_trees.specs.declared.head.Head.TheVariants.{New}
use Rattle.cv_syntax_trees.specs.Tree.{Tree}
use Rattle.cv_scope_rules.specs.Made.{is_bound, made_by}
use Rattle.cv_scope_rules.specs.Sites.{Variable}
use Rattle.cv_scene.specs.Scenes.{head_reads}
use Rattle.cv_scene.specs.Refusals as refusals
use Rattle.cv_scene.specs.Refusals.{definitions_in, new_of}
use Rattle.cv_match_terms.specs.declared.uses.entry.Definition.{Definition}
use Rattle.cv_match_terms.specs.declared.uses.entry.Definition.TheVariants.{Drawn, Nowhere, Otherwise}
use Rattle.cv_match_terms.specs.declared.uses.entry.Entry.{Entry}
use Rattle.cv_match_terms.specs.declared.uses.table.UseTable.{UseTable}

-- no definition, one that is a `new`, or any other ones
pub data Draw : Type 0 where
  Zero Other : Draw
  One : (type : ℕ) → (replications : List (ℕ × ℕ)) → Draw

abbrev pub join : Draw → Draw → Draw
join Zero d = d
join (One T rs) Zero = One T rs
join (One T rs) d = Other
join Other d = Other

abbrev pub single : Head × List (ℕ × ℕ) → Draw
single (New x T, rs) = One T rs
single d = Other

abbrev pub summary : List (Head × List (ℕ × ℕ)) → Draw
summary [] = Zero
summary (d ∷ ds) = join (single d) (summary ds)

-- the type and the replications of the only definition, where it is a `new`
abbrev pub drawn : Draw → Option (ℕ × List (ℕ × ℕ))
drawn (One T rs) = Some (T, rs)
drawn d = None

pub record Tally : Type 0 where
  pub uses : ℕ
  pub draw : Draw

abbrev pub tally : ℕ → Draw → Tally
tally n d = record { uses = n; draw = d }

abbrev pub plus : Tally → Tally → Tally
plus s t = tally (s.uses + t.uses) (join s.draw t.draw)

-- what a tree has of a variable, below replications
abbrev pub tally_of : List (ℕ × ℕ) → ℕ → Tree → Tally
tally_of rs x t = tally (refusals.uses x t) (summary (definitions_in x rs t))

-- what a node itself has: its use of the variable, and its definition

abbrev pub used_here : ℕ → Head → Tally
used_here x h = tally (if head_reads x h then 1 else 0) Zero

abbrev pub defined_here : List (ℕ × ℕ) → ℕ → Head → Tree → Tally
defined_here rs x h a = tally 0 (if made_by h a (Variable x) then single (h, rs) else Zero)

abbrev pub tally_here : List (ℕ × ℕ) → ℕ → Head → Tree → Tally
tally_here rs x h a = plus (used_here x h) (defined_here rs x h a)

-- what a list of binders has
abbrev pub bound_here : ℕ → Tree → Tally
bound_here x t = tally 0 (if is_bound t x then Other else Zero)

-- what a table has

abbrev pub seen : Definition → Draw
seen Nowhere = Zero
seen (Drawn sort replications) = One sort replications.items
seen Otherwise = Other

abbrev pub nothing : Entry
nothing = record { uses = 0; definition = Nowhere }

abbrev pub tally_in : Entry → Tally
tally_in e = tally e.uses (seen e.definition)

abbrev pub entry_at : List Entry → ℕ → Entry
entry_at es x = slice_index_or es x nothing

abbrev pub tally_at : List Entry → ℕ → Tally
tally_at es x = tally_in (entry_at es x)

-- of one variable alone
abbrev pub only : ℕ → Tally → ℕ → Tally
only x t y = if x == y then t else tally 0 Zero

-- The table has of each variable what the game has.
pub record IsTableOf (game : Tree) (table : UseTable) : Type 0 where
  pub uses : (x : ℕ) → (tally_at table.entries.items x).uses ≡ refusals.uses x game
  pub news : (x : ℕ) → drawn (tally_at table.entries.items x).draw ≡ new_of game x
