-- What is tested of the lists that were made for a pair.
use Rattle.std.specs.Prelude.{◌≡◌, ℕ, Bool, ◌&&◌, ◌||◌, not, is_some, nat_lt, if◌then◌else◌, List, [], ◌∷◌}
use Rattle.cv_syntax_trees.specs.Tree.{Tree, first, second}
use Rattle.cv_syntax.specs.declared.work.Work.{Work}
use Rattle.cv_scope_rules.specs.Context.{items}
use Rattle.cv_scene.specs.lines.Ends.{is_end}
use Rattle.cv_scene.specs.lines.Lines.{Holds, lines_of, statements}
use Rattle.cv_scene.specs.lines.Truths.{no}
use Rattle.cv_scene.specs.Derivations.{first_bad_line}
use Rattle.cv_scene.specs.Pairs.{pair_at}
use Rattle.cv_scene.specs.Scenes.{Scene}
use Rattle.cv_query_entries.specs.ends.Said.{said_equal}
use Rattle.cv_query.specs.declared.pairs.ends.Ends.{Ends}

-- the lists that stand in a list, one behind the other: the equations that are given, the indices of the second copy, those that may be the
-- same in both copies, in each, and the derivation

abbrev pub given_in : Tree → Tree
given_in t = first t

abbrev pub raised_in : Tree → Tree
raised_in t = first (second t)

abbrev pub same_in : Tree → Tree
same_in t = first (second (second t))

abbrev pub others_in : Tree → Tree
others_in t = first (second (second (second t)))

abbrev pub by_in : Tree → Tree
by_in t = first (second (second (second (second t))))

abbrev pub has_right_lines : Scene → (p q k : ℕ) → (given : List Tree) → (distinct : List ℕ) → (by : Tree) → Bool
has_right_lines s p q k given ds by = not (is_some (first_bad_line (pair_at s p q k given ds) by))

-- it ends with the equality of indices, or with `false`
abbrev pub has_end : (same never : Bool) → (by ones others : Tree) → Bool
has_end same never by ms ns =
    (same && is_end (statements (lines_of by)) (said_equal ms ns)) || (never && is_end (statements (lines_of by)) (Holds no ∷ []))

abbrev pub is_proved : Scene → (p q k : ℕ) → (distinct : List ℕ) → Ends → (lists : Tree) → Bool
is_proved s p q k ds e t =
    has_right_lines s p q k (items (given_in t)) ds (by_in t) && has_end e.same e.never (by_in t) (same_in t) (others_in t)

-- the pool's trees, the names and the declarations are as they were
pub record IsAsBefore (old new : Work) : Type 0 where
  pub trees : new.pool.trees ≡ old.pool.trees
  pub limit : new.pool.limit ≡ old.pool.limit
  pub names : new.names ≡ old.names
  pub decls : new.decls ≡ old.decls

-- the place, or one that no game has
abbrev pub near : ℕ → ℕ
near p = if nat_lt 4294967295 p then 4294967295 else p
