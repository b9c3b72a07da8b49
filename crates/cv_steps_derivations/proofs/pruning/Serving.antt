-- An `if` of which one body is never visited serves as its other body, and a `find` of which one branch is never a candidate as the
-- one without it.
use Rattle.std.proofs.Common.{◌≡◌, ℕ, zero, suc, Bool, true, false, cond, List, [], Option, Some, None, refl, sym, subst}
use Rattle.std.specs.Prelude.{option_map}
use Rattle.std.proofs.lemmas.Bool.{both_ways}
use Rattle.std.specs.List.{AllByRecursion}
use Rattle.cv_syntax_trees.specs.declared.head.Head.TheVariants as head
use Rattle.cv_syntax_trees.specs.declared.head.Head.TheVariants.{Cons, Find, If}
use Rattle.cv_syntax.specs.Layouts.{IsSyntax}
use Rattle.cv_syntax_trees.specs.Tree.{Tree, Empty, Node, first_place, second_place}
use Rattle.cv_meaning.specs.Tapes.{Find_at, Tape}
use Rattle.cv_meaning.specs.Interpretation.{Interpretation, Setting, setting_of}
use Rattle.cv_meaning.specs.Memory.{Local, tuple}
use Rattle.cv_meaning.specs.Terms.{is_one, value_here}
use Rattle.cv_meaning.specs.Candidates.{Candidate, candidates, chosen}
use Rattle.cv_meaning.specs.Inputs.{inputs_of}
use Rattle.cv_meaning.specs.Serving.{Served, after_find, after_turn, serve, step, visits}
use Rattle.cv_meaning_runs.specs.Simulation.{AreServedAlike, InOrder}
use Rattle.cv_meaning_runs.specs.Replacement.{AreLikeInputs, SameMemory, ServeAlike}
use Rattle.cv_meaning.specs.Replaced.{is_output}
use Rattle.cv_meaning_runs.proofs.Outputs.{output_begins, output_opens, served_elsewhere}
use Rattle.cv_scope_rules.specs.Phrases.{Branches, is_phrase}
use Rattle.cv_scene.specs.Scenes.{Scene}
use Rattle.cv_derive_laws.specs.stores.Unreached.{HasNoneAt, IsElsewhere}
use Rattle.cv_scene.specs.Pruning.{branch_body, find_of, without_branch}
use Rattle.cv_steps_derivations.proofs.pruning.Candidates.{IsIdle, beside, chosen_without, idle_there, none_chosen, renumbered}

output_syntax : (t : Tree) → is_output t ≡ true → IsSyntax t
output_syntax (Node head.Yield a b) e = refl
output_syntax (Node (head.Out c) a b) e = refl
output_syntax (Node (head.Event x) a b) e = refl
output_syntax (Node (head.New x T) a b) e = refl
output_syntax (Node (head.Let x T) a b) e = refl
output_syntax (Node If a b) e = refl
output_syntax (Node (Find l) a b) e = refl
output_syntax (Node (head.Key x) a b) e = refl
output_syntax (Node (head.Call x l) a b) e = refl
output_syntax t e = absurd (both_ways false refl e)

-- an output process is visited where it is served
begun_there : (g : Setting) (t : Tape) (q p k : ℕ) (vs : List ℕ) (s : Local) (b : Tree) → is_output b ≡ true → AllByRecursion (IsElsewhere q) (visits g t b p k vs s) → p ≡ q → ⊥
unfolding visits
begun_there g t q p k vs s Empty o e f = both_ways false refl o
begun_there g t q p k vs s (Node h a b) o e f = e.0 (output_syntax (Node h a b) o) f

module _ (g : Setting) (t : Tape) (place : ℕ) where
  abbrev Alike : Tree → Tree → Served → Served → Type 0
  Alike old new = AreServedAlike SameMemory (AreLikeInputs old new place)

  -- output processes open nothing
  opens_none : (old new : Tree) → is_output old ≡ true → is_output new ≡ true → (at : _) → InOrder (AreLikeInputs old new place) (inputs_of g old place at) (inputs_of g new place at)
  opens_none old new o n at =
      subst (λ is. InOrder (AreLikeInputs old new place) is (inputs_of g new place at)) (sym (output_opens g old place at o))
      (subst (λ is. InOrder (AreLikeInputs old new place) [] is) (sym (output_opens g new place at n)) tt)

  -- a body that is served somewhere, and at the place of the construct
  elsewhere : (old new : Tree) → is_output new ≡ true → (q k : ℕ) (vs : List ℕ) (s : Local) → Alike old new (serve g t new q 0 [] s) (serve g t new place k vs s)
  elsewhere old new n q k vs s = subst (Alike old new (serve g t new q 0 [] s)) (sym (output_begins g t new place k vs s n)) (served_elsewhere g t old new place new q place 0 [] s)

  -- an `if`

  module _ (c then_body else_body rest : Tree) where
    abbrev old_if : Tree
    old_if = Node If c (Node Cons then_body (Node Cons else_body rest))

    abbrev list : ℕ
    list = second_place place If c

    pub then_goes : is_output then_body ≡ true → is_output else_body ≡ true → ServeAlike (IsElsewhere (first_place list Cons)) g t old_if else_body place
    unfolding serve step visits
    then_goes o n = record {
      opened = opens_none old_if else_body refl n;
      served = λ k vs s e. go k vs s (is_one (value_here g s c)) e.1;
    }
      where
        go : (k : ℕ) (vs : List ℕ) (s : Local) (b : Bool) → AllByRecursion (IsElsewhere (first_place list Cons)) (visits g t (Node Cons then_body (Node Cons else_body rest)) list (cond b 0 1) [] s)
            → Alike old_if else_body (serve g t (Node Cons then_body (Node Cons else_body rest)) list (cond b 0 1) [] s) (serve g t else_body place k vs s)
        go k vs s true e = absurd (begun_there g t (first_place list Cons) (first_place list Cons) 0 [] s then_body o e.1 refl)
        go k vs s false e = elsewhere old_if else_body n (first_place (second_place list Cons then_body) Cons) k vs s

    pub else_goes : is_output then_body ≡ true → is_output else_body ≡ true → ServeAlike (IsElsewhere (first_place (second_place list Cons then_body) Cons)) g t old_if then_body place
    unfolding serve step visits
    else_goes o n = record {
      opened = opens_none old_if then_body refl o;
      served = λ k vs s e. go k vs s (is_one (value_here g s c)) e.1;
    }
      where
        q : ℕ
        q = first_place (second_place list Cons then_body) Cons

        go : (k : ℕ) (vs : List ℕ) (s : Local) (b : Bool) → AllByRecursion (IsElsewhere q) (visits g t (Node Cons then_body (Node Cons else_body rest)) list (cond b 0 1) [] s)
            → Alike old_if then_body (serve g t (Node Cons then_body (Node Cons else_body rest)) list (cond b 0 1) [] s) (serve g t then_body place k vs s)
        go k vs s true e = elsewhere old_if then_body o (first_place list Cons) k vs s
        go k vs s false e = absurd (begun_there g t q q 0 [] s else_body n e.1.1 refl)

  -- the branches, and those but one

  bodies_alike : (old new : Tree) (branches : Tree) (number p q b : ℕ) (vs : List ℕ) (s : Local) (at : _) (m : _) → IsIdle g at m branches number → Alike old new (serve g t branches p (beside number b) vs s) (serve g t (without_branch branches number) q b vs s)
  unfolding serve step
  bodies_alike old new (Node Cons branch more) (suc zero) p q b vs s at m idle = served_elsewhere g t old new place more (second_place p Cons branch) q b vs s
  bodies_alike old new (Node Cons branch more) (suc (suc k)) p q zero vs s at m idle = served_elsewhere g t old new place branch (first_place p Cons) (first_place q Cons) 0 vs s
  bodies_alike old new (Node Cons branch more) (suc (suc k)) p q (suc b) vs s at m idle = bodies_alike old new more (suc k) (second_place p Cons branch) (second_place q Cons branch) b vs s at m idle
  bodies_alike old new branches number p q b vs s at m idle = absurd idle

  -- a `find`

  module _ (l : ℕ) (branches otherwise : Tree) (number : ℕ) where
    abbrev less : Tree
    less = without_branch branches number

    abbrev old_find : Tree
    old_find = Node (Find l) branches otherwise

    abbrev new_find : Tree
    new_find = find_of l less otherwise

    turn_alike : (p q r u : ℕ) (s : Local) (o : Option Candidate) → IsIdle g s.indices s.memory.store branches number
        → Alike old_find new_find (after_turn (λ r. r) (serve g t branches p) (serve g t otherwise q) (after_find s (option_map (renumbered (beside number)) o))) (after_turn (λ r. r) (serve g t less r) (serve g t otherwise u) (after_find s o))
    turn_alike p q r u s None idle = served_elsewhere g t old_find new_find place otherwise q u 0 [] s
    turn_alike p q r u s (Some c) idle = bodies_alike old_find new_find branches number p r c.branch c.tuple s s.indices s.memory.store idle

    abbrev cell : Local → ℕ
    cell s = t (Find_at l (tuple s.indices))

    -- as the candidate among these branches chooses
    abbrev taken : Local → Option Candidate → Served
    taken s o = after_turn (λ r. r) (serve g t branches (first_place place (Find l))) (serve g t otherwise (second_place place (Find l) branches)) (after_find s (option_map (renumbered (beside number)) o))

    left_alike : is_output otherwise ≡ true → (k : ℕ) (vs : List ℕ) (s : Local) → IsIdle g s.indices s.memory.store branches number → (x : Tree) → less ≡ x
        → Alike old_find new_find (taken s (chosen (candidates g s.indices s.memory.store x) (cell s))) (serve g t (find_of l x otherwise) place k vs s)
    unfolding serve step
    left_alike n k vs s idle Empty e =
        subst (λ o. Alike old_find new_find (taken s o) (serve g t otherwise place k vs s)) (sym (none_chosen g s.indices s.memory.store (cell s)))
        (subst (Alike old_find new_find (serve g t otherwise (second_place place (Find l) branches) 0 [] s)) (sym (output_begins g t otherwise place k vs s n)) (served_elsewhere g t old_find new_find place otherwise (second_place place (Find l) branches) place 0 [] s))
    left_alike n k vs s idle (Node h a b) e =
        subst (λ x. (o : Option Candidate) → Alike old_find new_find (taken s o) (after_turn (λ r. r) (serve g t x (first_place place (Find l))) (serve g t otherwise (second_place place (Find l) (Node h a b))) (after_find s o))) e
        (λ o. turn_alike (first_place place (Find l)) (second_place place (Find l) branches) (first_place place (Find l)) (second_place place (Find l) (Node h a b)) s o idle) (chosen (candidates g s.indices s.memory.store (Node h a b)) (cell s))

    left_output : is_output otherwise ≡ true → (x : Tree) → is_output (find_of l x otherwise) ≡ true
    left_output n Empty = n
    left_output n (Node h a b) = refl

    find_alike : is_output otherwise ≡ true → (k : ℕ) (vs : List ℕ) (s : Local) → IsIdle g s.indices s.memory.store branches number → Alike old_find new_find (serve g t old_find place k vs s) (serve g t new_find place k vs s)
    unfolding serve step
    find_alike n k vs s idle =
        subst (λ o. Alike old_find new_find (after_turn (λ r. r) (serve g t branches (first_place place (Find l))) (serve g t otherwise (second_place place (Find l) branches)) (after_find s o)) (serve g t new_find place k vs s))
        (sym (chosen_without g s.indices s.memory.store branches number (cell s) idle)) (left_alike n k vs s idle less refl)

pub branch_goes : (sc : Scene) (i : Interpretation) (t : Tape) (place q l : ℕ) (branches otherwise : Tree) (number : ℕ) → is_phrase Branches branches ≡ true → is_output otherwise ≡ true → branch_body (first_place place (Find l)) branches number ≡ Some q
    → ServeAlike (HasNoneAt sc i q) (setting_of sc.declarations i) t (Node (Find l) branches otherwise) (find_of l (without_branch branches number) otherwise) place
unfolding visits
branch_goes sc i t place q l branches otherwise number e n b =
    let g : Setting = setting_of sc.declarations i in
    record {
      opened = opens_none g t place (Node (Find l) branches otherwise) (find_of l (without_branch branches number) otherwise) refl (left_output g t place l branches otherwise number n (without_branch branches number));
      served = λ k vs s v. find_alike g t place l branches otherwise number n k vs s (idle_there sc i q (first_place place (Find l)) s.indices s.memory branches number e b v.0);
    }
