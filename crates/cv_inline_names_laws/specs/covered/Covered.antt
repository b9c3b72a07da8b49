-- When a call has what is drawn for its function, and what the grammar of files leaves empty in right bodies. This profile's own.
use Rattle.std.specs.Prelude.{◌≡◌, ℕ, Bool, true, ◌&&◌, List, length}
use Rattle.std.specs.List.{AllByRecursion}
use Rattle.cv_syntax_trees.specs.declared.head.Head.{Head}
use Rattle.cv_syntax_trees.specs.declared.head.Head.TheVariants.{Binder, New}
use Rattle.cv_syntax_trees.specs.Tree.{Tree, Empty, Node}
use Rattle.cv_meaning.specs.contexts.Inlined.{Caller}
use Rattle.cv_inline.specs.bodies.Inlining.{Inlining}
use Rattle.cv_inline.specs.NextGame.{Calling, callers_of}
use Rattle.cv_inline_laws.specs.draws.DrawnNames.{DrawnNames, has_find, has_indices, has_name}
use Rattle.cv_inline_names_laws.specs.accepted.RightBodies.{is_empty}

-- nothing stands at a name that is bound

abbrev pub stands_bare : Head → Tree → Bool
stands_bare (New z U) a = is_empty a
stands_bare (Binder u n) a = is_empty a
stands_bare h a = true

unfoldable pub names_stand_bare : Tree → Bool
names_stand_bare Empty = true
names_stand_bare (Node h a b) = stands_bare h a && (names_stand_bare a && names_stand_bare b)

-- where a call is inlined, what is drawn for it and the other calls is there
pub record HasDraws (constants : ℕ → Bool) (d : DrawnNames) (callings : List Calling) (c : Calling) (p : Inlining) : Type 0 where
  pub caller : p.c ≡ c.caller
  pub names : (s x : ℕ) → has_name d s x ≡ true → p.has s x ≡ true
  pub finds : (q : ℕ) → has_find d c.caller.number q ≡ true → p.finds q ≡ true
  pub opens : AllByRecursion (λ (s : Caller). (q b : ℕ) → has_indices d c.caller.number q s.number b 0 (length s.replications) ≡ true → p.opens q s.number b ≡ true) (callers_of callings)
  pub constant : (x : ℕ) → constants x ≡ true → p.constant x ≡ true
