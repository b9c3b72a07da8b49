-- A message is accepted exactly where its tag was asked for and the function accepts it.
use Rattle.std.proofs.Common.{◌≡◌, ℕ, Bool, true, false, ◌&&◌, ◌==◌, if◌then◌else◌, List, [], ◌∷◌, ◌++◌, refl, ap, ◌∙◌}
use Rattle.std.proofs.Math.Nat.{mod-one}
use Rattle.cv_syntax_trees.specs.declared.head.Head.TheVariants.{No, Find}
use Rattle.cv_syntax_trees.specs.Tree.{lone, first, second_place}
use Rattle.cv_meaning.specs.Tapes.{Tape, Key_at, Picked_at}
use Rattle.cv_meaning.specs.Memory.{no_memory}
use Rattle.cv_meaning.specs.Interpretation.{Interpretation, setting_of}
use Rattle.cv_meaning.specs.Terms.{bit, is_one}
use Rattle.cv_meaning.specs.Candidates.{tuples_up_to}
use Rattle.cv_meaning.specs.contexts.Groups.{group_of}
use Rattle.cv_meaning.specs.contexts.Frames.{IsValue, Frame, put_at}
use Rattle.cv_meaning.specs.contexts.BodyTerms.{body_value, body_values}
use Rattle.cv_meaning.specs.contexts.Finds.{Oracles, Pick, picks_at, picks, picked}
use Rattle.cv_meaning.specs.contexts.Bodies.{after_pick, body_answer, branch_answer, reply}
use Rattle.cv_meaning.specs.contexts.Worked.{answers, at_site, site, authentication, authenticating, was_authenticated, tag, check}

abbrev oracles : Interpretation → Oracles
oracles i = record { setting = setting_of [] i; group = group_of (authentication was_authenticated); sites = site 0 0 (2 ∷ 2 ∷ []) ∷ site 1 1 (2 ∷ 2 ∷ []) ∷ [] }

abbrev key_on : Tape → ℕ
key_on t = t (Key_at (0 ∷ []))

-- where the message is checked
abbrev checking : Tape → ℕ → ℕ → ℕ → Frame
checking t m n z =
    record {
      key = 0 ∷ [];
      number = at_site 1 (0 ∷ 1 ∷ []);
      names = (33, IsValue z) ∷ (32, IsValue n) ∷ (30, IsValue (key_on t)) ∷ [];
      arrays = put_at (put_at (put_at no_memory.arrays 31 (0 ∷ []) (at_site 0 (0 ∷ 0 ∷ [])) m) 32 (0 ∷ []) (at_site 1 (0 ∷ 1 ∷ [])) n) 33 (0 ∷ []) (at_site 1 (0 ∷ 1 ∷ [])) z;
    }

abbrev only : Pick
only = record { branch = 0; number = at_site 0 (0 ∷ 0 ∷ []) }

abbrev if_accepted : Bool → List Pick
if_accepted b = if b then only ∷ [] else []

-- the other branches, sites and tuples give none
abbrev among_others : Bool → List Pick
among_others b = ((if_accepted b ++ []) ++ []) ++ []

alone : (b : Bool) → among_others b ≡ if_accepted b
alone true = refl
alone false = refl

abbrev accepts : Interpretation → Tape → ℕ → ℕ → Bool
accepts i t m z = is_one (i.table 41 (m ∷ key_on t ∷ z ∷ []))

found : (i : Interpretation) (t : Tape) (m n z : ℕ) → picks (oracles i) (checking t m n z) (first was_authenticated) ≡ among_others (is_one (bit (is_one (bit (n == m)) && accepts i t m z)))
unfolding tuples_up_to put_at body_value body_values picks_at picks
found i t m n z = refl

both_hold : (b d : Bool) → is_one (bit (is_one (bit b) && d)) ≡ (b && d)
both_hold true true = refl
both_hold true false = refl
both_hold false d = refl

-- the only candidate is picked
entered : (i : Interpretation) (t : Tape) (m n z v : ℕ) (b : Bool) →
    (after_pick (branch_answer (oracles i) t (checking t m n z) 1 (first was_authenticated)) (body_answer (oracles i) t (checking t m n z) (second_place 0 (Find 1) (first was_authenticated)) (lone No)) (picked (if_accepted b) v)).value ≡ bit b
unfolding picked body_value body_answer branch_answer
entered i t m n z v true = rw (mod-one v) refl
entered i t m n z v false = refl

served : (i : Interpretation) (t : Tape) (m n z : ℕ) →
    answers (authenticating i was_authenticated) t (tag 0 m ∷ check 0 n z ∷ [])
    ≡ i.table 40 (m ∷ key_on t ∷ [])
    ∷ (after_pick (branch_answer (oracles i) t (checking t m n z) 1 (first was_authenticated)) (body_answer (oracles i) t (checking t m n z) (second_place 0 (Find 1) (first was_authenticated)) (lone No)) (picked (picks (oracles i) (checking t m n z) (first was_authenticated)) (t (Picked_at 0 (0 ∷ 1 ∷ []) 1)))).value
    ∷ []
unfolding body_value body_values body_answer branch_answer reply
served i t m n z = refl

pub authenticated : (i : Interpretation) (t : Tape) (m n z : ℕ) →
    answers (authenticating i was_authenticated) t (tag 0 m ∷ check 0 n z ∷ [])
    ≡ i.table 40 (m ∷ t (Key_at (0 ∷ [])) ∷ []) ∷ bit ((n == m) && is_one (i.table 41 (m ∷ t (Key_at (0 ∷ [])) ∷ z ∷ []))) ∷ []
authenticated i t m n z =
    served i t m n z
    ∙ ap (λ cs. i.table 40 (m ∷ key_on t ∷ []) ∷ (after_pick (branch_answer (oracles i) t (checking t m n z) 1 (first was_authenticated)) (body_answer (oracles i) t (checking t m n z) (second_place 0 (Find 1) (first was_authenticated)) (lone No)) (picked cs (t (Picked_at 0 (0 ∷ 1 ∷ []) 1)))).value ∷ []) (found i t m n z ∙ ap among_others (both_hold (n == m) (accepts i t m z)) ∙ alone ((n == m) && accepts i t m z))
    ∙ ap (λ v. i.table 40 (m ∷ key_on t ∷ []) ∷ v ∷ []) (entered i t m n z (t (Picked_at 0 (0 ∷ 1 ∷ []) 1)) ((n == m) && accepts i t m z))
