-- The candidates of a `find` of which one branch has none: those of the `find` without it, where the branches behind it have lower
-- numbers.
use Rattle.std.proofs.Common.{◌≡◌, ℕ, zero, suc, ◌+◌, ◌≤◌, ◌%◌, max, ◌&&◌, Bool, true, false, cond, List, [], ◌∷◌, ◌++◌, map, length, flat_map, Some, None, refl, sym, ap, ap₂, ◌∙◌, arith, ltb-true, lt-ltb}
use Rattle.std.specs.Prelude.{option_map, slice_get}
use Rattle.std.proofs.Math.Path.{fun_ext}
use Rattle.std.proofs.lemmas.Bool.{both_ways, and_parts}
use Rattle.std.proofs.lemmas.List.{length-map, map-append}
use Rattle.std.proofs.lemmas.Option.{slice_get-map}
use Rattle.cv_syntax_trees.specs.declared.head.Head.TheVariants.{Binder, Branch, Cons}
use Rattle.cv_syntax_trees.specs.Tree.{Tree, Empty, Node, first, first_place, second, second_place, size}
use Rattle.cv_meaning.specs.Interpretation.{Interpretation, Setting, setting_of}
use Rattle.cv_meaning.specs.Memory.{Indices, Memory, Store, tuple}
use Rattle.cv_meaning.specs.Binders.{binder_count, bound_to, fits, widest_binder}
use Rattle.cv_meaning.specs.Candidates.{Candidate, candidate, candidates, candidates_at, chosen, is_candidate, most_indices, tuples_up_to, widest}
use Rattle.cv_scope_rules.specs.Phrases.{Arm, Branches, is_phrase}
use Rattle.cv_scene.specs.Scenes.{Scene}
use Rattle.cv_derive_laws.specs.stores.Unreached.{HasNoCandidate}
use Rattle.cv_scene.specs.Pruning.{branch_body, without_branch}
use Rattle.cv_steps_derivations.proofs.pruning.Tuples.{is_within, tuples_within}

-- the number, from 0, that a branch has beside the k-th, from 1, which is not counted
abbrev pub beside : (k : ℕ) → ℕ → ℕ
beside zero b = b
beside (suc zero) b = suc b
beside (suc (suc k)) zero = zero
beside (suc (suc k)) (suc b) = suc (beside (suc k) b)

-- the candidate with another number
abbrev pub renumbered : (ℕ → ℕ) → Candidate → Candidate
renumbered N c = record { branch = N c.branch; tuple = c.tuple }

abbrev offered : Bool → Bool → Candidate → List Candidate
offered fit is c = elim fit as (λ _. List Candidate) [ true ↦ (cond is (c ∷ []) []) | false ↦ [] ]

map_flat : {A B C : Type 0} (r : B → C) (f : A → List B) (xs : List A) → map r (flat_map f xs) ≡ flat_map (λ x. map r (f x)) xs
map_flat r f [] = refl
map_flat r f (x ∷ xs) = map-append r (f x) (flat_map f xs) ∙ ap (λ ys. map r (f x) ++ ys) (map_flat r f xs)

first_below : (a b n : ℕ) → max a b ≤ n → a ≤ n
first_below a b n l = omega arith

second_below : (a b n : ℕ) → max a b ≤ n → b ≤ n
second_below a b n l = omega arith

fits_within : (bound : ℕ → ℕ) (bs : Tree) (u : List ℕ) (d n : ℕ) → binder_count bs ≤ d → widest_binder bound bs ≤ n → fits bound bs u ≡ true → is_within d n u ≡ true
fits_within bound bs [] d n k l e = refl
fits_within bound (Node (Binder x T) a b) (v ∷ u) zero n k l e = absurd (omega arith)
fits_within bound (Node (Binder x T) a b) (v ∷ u) (suc d) n k l e =
    let p = and_parts _ (fits bound b u) e in
    let below = first_below (bound T) (widest_binder bound b) n l in
    let less = ltb-true v (bound T) p.0 in
    ap₂ ◌&&◌ (lt-ltb v n (omega arith)) (fits_within bound b u d n (omega arith) (second_below (bound T) (widest_binder bound b) n l) p.1)
fits_within bound bs (v ∷ u) d n k l e = absurd (both_ways false refl e)

chosen_renumbered : (R : Candidate → Candidate) (cs : List Candidate) (v : ℕ) → chosen (map R cs) v ≡ option_map R (chosen cs v)
unfolding chosen
chosen_renumbered R [] v = refl
chosen_renumbered R (c ∷ cs) v = ap (λ n. slice_get (map R (c ∷ cs)) (v % n)) (length-map (c ∷ cs) R) ∙ slice_get-map R (c ∷ cs) (v % length (c ∷ cs))

module _ (g : Setting) (at : Indices) (m : Store) where
  abbrev bound : ℕ → ℕ
  bound = g.interpretation.parameter_value

  -- the k-th branch, from 1, is a candidate with no tuple
  abbrev pub IsIdle : Tree → ℕ → Type 0
  IsIdle (Node Cons branch more) (suc zero) = (u : List ℕ) (j : ℕ) → candidate g at m u j branch ≡ []
  IsIdle (Node Cons branch more) (suc (suc k)) = IsIdle more (suc k)
  IsIdle t k = ⊥

  outside_one : (u : List ℕ) (j : ℕ) (branch : Tree) (d n : ℕ) → binder_count (first branch) ≤ d → widest_binder bound (first branch) ≤ n → is_within d n u ≡ false → candidate g at m u j branch ≡ []
  outside_one u j branch d n k l o = go (fits bound (first branch) u) refl
    where
      go : (b : Bool) → fits bound (first branch) u ≡ b → offered b (is_candidate g at m (bound_to m (tuple at) (first branch) u) (second branch)) (record { branch = j; tuple = u }) ≡ []
      go true e = absurd (both_ways (is_within d n u) o (fits_within bound (first branch) u d n k l e))
      go false e = refl

  outside_all : (u : List ℕ) (j : ℕ) (branches : Tree) (d n : ℕ) → most_indices branches ≤ d → widest bound branches ≤ n → is_within d n u ≡ false → candidates_at g at m u j branches ≡ []
  unfolding candidates_at
  outside_all u j Empty d n k l o = refl
  outside_all u j (Node h branch more) d n k l o =
      ap₂ ◌++◌
      (outside_one u j branch d n (first_below (binder_count (first branch)) (most_indices more) d k) (first_below (widest_binder bound (first branch)) (widest bound more) n l) o)
      (outside_all u (suc j) more d n (second_below (binder_count (first branch)) (most_indices more) d k) (second_below (widest_binder bound (first branch)) (widest bound more) n l) o)

  -- numbers

  one_renumbered : (N : ℕ → ℕ) (u : List ℕ) (j i : ℕ) (branch : Tree) → N j ≡ i → candidate g at m u i branch ≡ map (renumbered N) (candidate g at m u j branch)
  one_renumbered N u j i branch e = go (fits bound (first branch) u) (is_candidate g at m (bound_to m (tuple at) (first branch) u) (second branch))
    where
      go : (b c : Bool) → offered b c (record { branch = i; tuple = u }) ≡ map (renumbered N) (offered b c (record { branch = j; tuple = u }))
      go true true = ap (λ n. (record { branch = n; tuple = u }) ∷ []) (sym e)
      go true false = refl
      go false c = refl

  all_renumbered : (N : ℕ → ℕ) (u : List ℕ) (j i : ℕ) (branches : Tree) → ((b : ℕ) → N (b + j) ≡ b + i) → candidates_at g at m u i branches ≡ map (renumbered N) (candidates_at g at m u j branches)
  unfolding candidates_at
  all_renumbered N u j i Empty e = refl
  all_renumbered N u j i (Node h branch more) e =
      let here : N j ≡ i = ap N (omega arith) ∙ (e 0 ∙ omega arith) in
      let later : (b : ℕ) → N (b + suc j) ≡ b + suc i = λ b. ap N (omega arith) ∙ (e (suc b) ∙ omega arith) in
      ap₂ ◌++◌ (one_renumbered N u j i branch here) (all_renumbered N u (suc j) (suc i) more later)
      ∙ sym (map-append (renumbered N) (candidate g at m u j branch) (candidates_at g at m u (suc j) more))

  without_renumbered : (N : ℕ → ℕ) (u : List ℕ) (k j i : ℕ) (branches : Tree) → IsIdle branches k → ((b : ℕ) → N (b + j) ≡ beside k b + i) → candidates_at g at m u i branches ≡ map (renumbered N) (candidates_at g at m u j (without_branch branches k))
  unfolding candidates_at
  without_renumbered N u (suc zero) j i (Node Cons branch more) idle e =
      let later : (b : ℕ) → N (b + j) ≡ b + suc i = λ b. e b ∙ omega arith in
      ap (λ cs. cs ++ candidates_at g at m u (suc i) more) (idle u i) ∙ all_renumbered N u j (suc i) more later
  without_renumbered N u (suc (suc k)) j i (Node Cons branch more) idle e =
      let here : N j ≡ i = ap N (omega arith) ∙ (e 0 ∙ omega arith) in
      let later : (b : ℕ) → N (b + suc j) ≡ beside (suc k) b + suc i = λ b. ap N (omega arith) ∙ (e (suc b) ∙ omega arith) in
      ap₂ ◌++◌ (one_renumbered N u j i branch here) (without_renumbered N u (suc k) (suc j) (suc i) more idle later)
      ∙ sym (map-append (renumbered N) (candidate g at m u j branch) (candidates_at g at m u (suc j) (without_branch more (suc k))))
  without_renumbered N u zero j i (Node Cons branch more) idle e = absurd idle
  without_renumbered N u k j i branches idle e = absurd idle

  -- bounds

  fewer : (branches : Tree) (k : ℕ) → most_indices (without_branch branches k) ≤ most_indices branches
  fewer (Node h branch more) (suc zero) = omega arith
  fewer (Node h branch more) (suc (suc k)) = let l = fewer more (suc k) in omega arith
  fewer branches k = omega arith

  narrower : (branches : Tree) (k : ℕ) → widest bound (without_branch branches k) ≤ widest bound branches
  narrower (Node h branch more) (suc zero) = omega arith
  narrower (Node h branch more) (suc (suc k)) = let l = narrower more (suc k) in omega arith
  narrower branches k = omega arith

  from_zero : (k b : ℕ) → beside k (b + 0) ≡ beside k b + 0
  from_zero k b =
      let n : b + 0 ≡ b = omega arith in
      let m : beside k b ≡ beside k b + 0 = omega arith in ap (beside k) n ∙ m

  pub candidates_without : (branches : Tree) (k : ℕ) → IsIdle branches k → candidates g at m branches ≡ map (renumbered (beside k)) (candidates g at m (without_branch branches k))
  unfolding candidates
  candidates_without branches k idle =
      let less : Tree = without_branch branches k in
      let R : Candidate → Candidate = renumbered (beside k) in
      let tried : List (List ℕ) = tuples_up_to (most_indices branches) (widest bound branches) in
      let same : (u : List ℕ) → candidates_at g at m u 0 branches ≡ map R (candidates_at g at m u 0 less) = λ u. without_renumbered (beside k) u k 0 0 branches idle (λ b. from_zero k b) in
      let none : (u : List ℕ) → is_within (most_indices less) (widest bound less) u ≡ false → map R (candidates_at g at m u 0 less) ≡ [] =
      λ u o. ap (map R) (outside_all u 0 less (most_indices less) (widest bound less) (omega arith) (omega arith) o) in
      ap (λ f. flat_map f tried) (fun_ext same)
      ∙ (tuples_within (most_indices less) (most_indices branches) (widest bound less) (widest bound branches) (λ u. map R (candidates_at g at m u 0 less)) (fewer branches k) (narrower branches k) none
      ∙ sym (map_flat R (λ u. candidates_at g at m u 0 less) (tuples_up_to (most_indices less) (widest bound less))))

  pub chosen_without : (branches : Tree) (k v : ℕ) → IsIdle branches k → chosen (candidates g at m branches) v ≡ option_map (renumbered (beside k)) (chosen (candidates g at m (without_branch branches k)) v)
  chosen_without branches k v idle = ap (λ cs. chosen cs v) (candidates_without branches k idle) ∙ chosen_renumbered (renumbered (beside k)) (candidates g at m (without_branch branches k)) v

-- no branch, no candidate
pub none_chosen : (g : Setting) (at : Indices) (m : Store) (v : ℕ) → chosen (candidates g at m Empty) v ≡ None
unfolding candidates candidates_at tuples_up_to chosen
none_chosen g at m v = refl

-- a branch whose body stands at a place where none is a candidate
pub idle_there : (s : Scene) (i : Interpretation) (q p : ℕ) (at : Indices) (x : Memory) (branches : Tree) (k : ℕ) → is_phrase Branches branches ≡ true → branch_body p branches k ≡ Some q → HasNoCandidate s i q p at x branches → IsIdle (setting_of s.declarations i) at x.store branches k
unfolding is_phrase
idle_there s i q p at x Empty k e f h = absurd (cc)
idle_there s i q p at x (Node Cons (Node Branch us rest) more) zero e f h = absurd (cc)
idle_there s i q p at x (Node Cons (Node Branch us rest) more) (suc zero) e f h = λ u j. go u j (fits i.parameter_value us u) refl
  where
    place : second_place (first_place p Cons) Branch us + size (first rest) + size (first (second rest)) ≡ q
    place = cc

    go : (u : List ℕ) (j : ℕ) (b : Bool) → fits i.parameter_value us u ≡ b → offered b (is_candidate (setting_of s.declarations i) at x.store (bound_to x.store (tuple at) us u) rest) (record { branch = j; tuple = u }) ≡ []
    go u j true g = ap (λ c. offered true c (record { branch = j; tuple = u })) (h.0 place u g)
    go u j false g = refl
idle_there s i q p at x (Node Cons (Node Branch us rest) more) (suc (suc k)) e f h =
    idle_there s i q (second_place p Cons (Node Branch us rest)) at x more (suc k) (and_parts (is_phrase Arm (Node Branch us rest)) _ e).1 f h.1
idle_there s i q p at x t k e f h = absurd (both_ways false refl e)
