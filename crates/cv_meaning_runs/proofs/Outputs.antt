-- Output processes, and an `if` whose condition is decided.
use Rattle.std.proofs.Common.{◌≡◌, ℕ, Bool, true, false, cond, List, [], ◌∷◌, refl, sym, ap, subst}
use Rattle.std.proofs.lemmas.Bool.{both_ways}
use Rattle.std.specs.List.{AllByRecursion}
use Rattle.cv_syntax_trees.specs.declared.head.Head.TheVariants.{Yield, Out, Event, New, Let, If, Find, Cons, Key, Call}
use Rattle.cv_syntax_trees.specs.Tree.{Tree, Empty, Node, first_place, second_place}
use Rattle.cv_meaning.specs.Tapes.{Tape}
use Rattle.cv_meaning.specs.Interpretation.{Setting}
use Rattle.cv_meaning.specs.Memory.{Indices, Local}
use Rattle.cv_meaning.specs.Terms.{is_one, value_here}
use Rattle.cv_meaning.specs.Inputs.{inputs_of}
use Rattle.cv_meaning.specs.Serving.{step, serve, visits}
use Rattle.cv_meaning_runs.specs.Simulation.{InOrder, AreServedAlike}
use Rattle.cv_meaning_runs.specs.Replacement.{AreLikeInputs, SameMemory, ServeAlike, if_tree, IsDecided}
use Rattle.cv_meaning.specs.Replaced.{is_output}
use Rattle.cv_meaning_runs.proofs.Replacement.{inputs_same, serve_same}
use Rattle.cv_syntax_trees.proofs.lists.Each.{AllByRecursion_trivial}

pub output_begins : (g : Setting) (t : Tape) (b : Tree) (p k : ℕ) (vs : List ℕ) (s : Local) → is_output b ≡ true → serve g t b p k vs s ≡ serve g t b p 0 [] s
unfolding serve step
output_begins g t (Node Yield a b) p k vs s e = refl
output_begins g t (Node (Out c) a b) p k vs s e = refl
output_begins g t (Node (Event x) a b) p k vs s e = refl
output_begins g t (Node (New x T) a b) p k vs s e = refl
output_begins g t (Node (Let x T) a b) p k vs s e = refl
output_begins g t (Node If a b) p k vs s e = refl
output_begins g t (Node (Find l) a b) p k vs s e = refl
output_begins g t (Node (Key x) a b) p k vs s e = refl
output_begins g t (Node (Call x l) a b) p k vs s e = refl
output_begins g t b p k vs s e = absurd (both_ways _ refl e)

pub output_opens : (g : Setting) (b : Tree) (p : ℕ) (at : Indices) → is_output b ≡ true → inputs_of g b p at ≡ []
unfolding inputs_of
output_opens g (Node Yield a b) p at e = refl
output_opens g (Node (Out c) a b) p at e = refl
output_opens g (Node (Event x) a b) p at e = refl
output_opens g (Node (New x T) a b) p at e = refl
output_opens g (Node (Let x T) a b) p at e = refl
output_opens g (Node If a b) p at e = refl
output_opens g (Node (Find l) a b) p at e = refl
output_opens g (Node (Key x) a b) p at e = refl
output_opens g (Node (Call x l) a b) p at e = refl
output_opens g b p at e = absurd (both_ways _ refl e)

pub served_elsewhere : (g : Setting) (t : Tape) (old new : Tree) (place : ℕ) (b : Tree) (p q k : ℕ) (vs : List ℕ) (s : Local) → AreServedAlike SameMemory (AreLikeInputs old new place) (serve g t b p k vs s) (serve g t b q k vs s)
served_elsewhere g t old new place b p q k vs s = serve_same old new place (λ v. Unit {0}) g t b p q k vs s (AllByRecursion_trivial (visits g t b p k vs s))

pub opened_elsewhere : (g : Setting) (old new : Tree) (place : ℕ) (b : Tree) (p q : ℕ) (at : Indices) → InOrder (AreLikeInputs old new place) (inputs_of g b p at) (inputs_of g b q at)
opened_elsewhere g old new place b p q at = inputs_same old new place g b p q at

-- the body that a decided condition takes
decided_serves : (g : Setting) (t : Tape) (condition then_body else_body : Tree) (p k : ℕ) (vs : List ℕ) (s : Local) (holds : Bool) → is_one (value_here g s condition) ≡ holds
    → (q : ℕ) × (serve g t (if_tree condition then_body else_body) p k vs s ≡ serve g t (cond holds then_body else_body) q 0 [] s)
unfolding serve step
decided_serves g t condition then_body else_body p k vs s holds e = go holds e
  where
    list : ℕ
    list = second_place p If condition

    bodies : Tree
    bodies = Node Cons then_body (Node Cons else_body Empty)

    go : (b : Bool) → is_one (value_here g s condition) ≡ b → (q : ℕ) × (serve g t (if_tree condition then_body else_body) p k vs s ≡ serve g t (cond b then_body else_body) q 0 [] s)
    go true e = (first_place list Cons, ap (λ c. serve g t bodies list (cond c 0 1) [] s) e)
    go false e = (first_place (second_place list Cons then_body) Cons, ap (λ c. serve g t bodies list (cond c 0 1) [] s) e)

pub decided_alike : (g : Setting) (t : Tape) (condition then_body else_body : Tree) (place : ℕ) (holds : Bool) → is_output (cond holds then_body else_body) ≡ true
    → ServeAlike (IsDecided g place condition then_body else_body holds) g t (if_tree condition then_body else_body) (cond holds then_body else_body) place
unfolding visits inputs_of
decided_alike g t condition then_body else_body place holds o = record {
  opened = λ at. subst (InOrder (AreLikeInputs old new place) []) (sym (output_opens g new place at o)) tt;
  served = λ k vs s e.
      let d = decided_serves g t condition then_body else_body place k vs s holds (e.0 refl refl) in
      subst (λ r. AreServedAlike SameMemory (AreLikeInputs old new place) r (serve g t new place k vs s)) (sym d.1)
      (subst (AreServedAlike SameMemory (AreLikeInputs old new place) (serve g t new d.0 0 [] s)) (sym (output_begins g t new place k vs s o)) (served_elsewhere g t old new place new d.0 place 0 [] s));
}
  where
    old : Tree
    old = if_tree condition then_body else_body

    new : Tree
    new = cond holds then_body else_body
