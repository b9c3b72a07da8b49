-- Fronts of proofs, and of what is drawn along them.
use Rattle.std.proofs.Common.{◌≡◌, ℕ, suc, ◌+◌, ◌<◌, ◌≤◌, inl, inr, Bool, List, [], ◌∷◌, ◌++◌, length, map, take, Option, refl, ap, sym, ◌∙◌, subst, arith}
use Rattle.std.proofs.lemmas.Bool.{cases_lt}
use Rattle.std.proofs.lemmas.List.{append_assoc, length-map, length_push, take-append-le, take-map, take_all, take_at}
use Rattle.cv_syntax_trees.specs.Declarations.{Declaration}
use Rattle.cv_syntax_trees.specs.Tree.{Tree}
use Rattle.cv_kernel.specs.Drawings.{DrawsAlong, game_after}
use Rattle.cv_kernel.specs.Proofs.{IsProof, IsTransition, Transition, closed_by, push, start}

-- the front of a list stays the front where it goes on
pub front_before : {A : Type 0} (xs : List A) (x : A) (k : ℕ) → k ≤ length xs → take k (xs ++ x ∷ []) ≡ take k xs
front_before xs x k l = take-append-le k xs (x ∷ []) l

none_taken : (k : ℕ) → take {A = Transition} k [] ≡ []
none_taken k = take_all {A = Transition} k [] (omega arith)

module _ (ds : List Declaration) (known : ℕ → Bool) where
  -- transitions in front are a proof too
  pub proof_front : (first : Tree) (ts : List Transition) (last : Tree) (k : ℕ) → IsProof ds known first ts last → (end : Tree) × IsProof ds known first (take k ts) end
  proof_front first ts last k start = (first, subst (λ xs. IsProof ds known first xs first) (sym (none_taken k)) start)
  proof_front first ts last k (push before game t p i) =
      elim (cases_lt (length before) k) as (λ _. (end : Tree) × IsProof ds known first (take k (before ++ t ∷ [])) end) [
        | inl more ↦ (t.next, subst (λ xs. IsProof ds known first xs t.next) (sym (take_all k (before ++ t ∷ []) (let n = length_push before t in omega arith))) (push before game t p i))
        | inr few ↦
            let r = proof_front first before game k p in
            (r.0, subst (λ xs. IsProof ds known first xs r.0) (sym (front_before before t k few)) r.1)
      ]

  -- a transition of a proof, in the game that those before it lead to
  pub record IsAt (first : Tree) (ts : List Transition) (k : ℕ) : Type 0 where
    pub front : List Transition
    pub one : Transition
    pub more : List Transition
    pub split : ts ≡ front ++ one ∷ more
    pub count : length front ≡ k
    pub game : Tree
    pub before : IsProof ds known first front game
    pub here : IsTransition ds known (suc (length front)) (closed_by front) game one

  pub proof_at : (first : Tree) (ts : List Transition) (last : Tree) (k : ℕ) → IsProof ds known first ts last → k < length ts → IsAt first ts k
  proof_at first ts last k start l = absurd (omega arith)
  proof_at first ts last k (push before game t p i) l =
      elim (cases_lt k (length before)) as (λ _. IsAt first (before ++ t ∷ []) k) [
        | inl few ↦
            let r = proof_at first before game k p few in
            record { front = r.front; one = r.one; more = r.more ++ t ∷ []; split = ap (λ xs. xs ++ t ∷ []) r.split ∙ append_assoc r.front (r.one ∷ r.more) (t ∷ []); count = r.count; game = r.game; before = r.before; here = r.here }
        | inr more ↦
            record { front = before; one = t; more = []; split = refl; count = (let n = length_push before t in omega arith); game = game; before = p; here = i }
      ]

  -- so it is with the names that they draw
  pub drawn_front : (found : Bool) (own : ℕ) (game : Tree) (ts us : List (Tree × Option Tree)) (a c : List (List ℕ)) → DrawsAlong found ds known own game (ts ++ us) a c → (b : List (List ℕ)) × DrawsAlong found ds known own game ts a b
  drawn_front found own game [] us a c h = (a, refl)
  drawn_front found own game (t ∷ ts) us a c h = let r = drawn_front found own (game_after t.1 game) ts us h.0 c h.2 in (r.0, (h.0, h.1, r.1))

-- two fronts of one list are as many of its steps
pub steps_front : (ts us : List Transition) (left rest : List Tree) → map (λ (t : Transition). t.step) ts ++ left ≡ map (λ (t : Transition). t.step) us ++ rest → length ts ≤ length us → map (λ (t : Transition). t.step) ts ≡ map (λ (t : Transition). t.step) (take (length ts) us)
steps_front ts us left rest e l =
    let step : Transition → Tree = λ t. t.step in
    let few : length ts ≤ length (map step us) = subst (λ n. length ts ≤ n) (sym (length-map us step)) l in
    sym (take_at (map step ts) left (length ts) (length-map ts step))
    ∙ (ap (take (length ts)) e ∙ (take-append-le (length ts) (map step us) rest few ∙ take-map step (length ts) us))
