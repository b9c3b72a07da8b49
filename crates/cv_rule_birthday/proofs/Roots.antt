-- The first place of a game is its root.
use Rattle.std.proofs.Common.{◌≡◌, ◌<◌, Bool, true, false, cond, nat_lt, Option, Some, None, refl, ap, subst, arith}
use Rattle.std.proofs.lemmas.Bool.{both_ways}
use Rattle.cv_syntax_trees.specs.declared.head.Head.{Head}
use Rattle.cv_syntax_trees.specs.declared.head.Head.TheVariants.{In, Par, Repl, Stop}
use Rattle.cv_syntax_trees.specs.Head.{weight}
use Rattle.cv_syntax_trees.specs.Tree.{Tree, Empty, Node, size}
use Rattle.cv_meaning.specs.Replaced.{replaced}
use Rattle.cv_scope_rules.specs.Phrases.{Phrase, Inputs, is_phrase, parts}
use Rattle.cv_steps.proofs.Flat.{open_phrase}

abbrev IfOne : Head → Option (Phrase × Phrase) → Type 0
IfOne h None = Unit {0}
IfOne h (Some q) = weight h ≡ 1

rows_of_inputs : (h : Head) → IfOne h (parts Inputs h)
rows_of_inputs Stop = refl
rows_of_inputs Par = refl
rows_of_inputs (Repl i n) = refl
rows_of_inputs (In c) = refl
rows_of_inputs h = tt

root_weight : (h : Head) (a b : Tree) → is_phrase Inputs (Node h a b) ≡ true → weight h ≡ 1
root_weight h a b e = let o = open_phrase Inputs h a b e in subst (IfOne h) o.1 (rows_of_inputs h)

pub game_there : (t : Tree) → is_phrase Inputs t ≡ true → 0 < size t
unfolding is_phrase size
game_there Empty e = absurd (both_ways false refl e)
game_there (Node h a b) e = omega (arith, root_weight h a b e)

chosen : (v : Bool) (x y : Tree) → v ≡ true → cond v x y ≡ x
chosen v x y e = ap (λ u. cond u x y) e

pub root_replaced : (t new : Tree) → is_phrase Inputs t ≡ true → replaced t 0 new ≡ new
unfolding is_phrase replaced
root_replaced Empty new e = absurd (both_ways false refl e)
root_replaced (Node h a b) new e = chosen (nat_lt 0 (weight h)) new _ (ap (nat_lt 0) (root_weight h a b e))
