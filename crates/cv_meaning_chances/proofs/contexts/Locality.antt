-- A side's answer reads the key's cell and the cells of the call alone, and each of these is of the call.
use Rattle.std.proofs.Common.{◌≡◌, ℕ, zero, suc, Bool, true, false, ◌||◌, not, List, [], ◌∷◌, ◌++◌, map, filter, Option, Some, None, refl, ap, ap₂, subst, ◌∙◌, inl, inr, if◌then◌else◌}
use Rattle.std.specs.List.{AllByRecursion, IsDistinct}
use Rattle.std.proofs.lemmas.Bool.{both_ways}
use Rattle.cv_syntax_trees.specs.declared.head.Head.{Head}
use Rattle.cv_syntax_trees.specs.declared.head.Head.TheVariants.{New, Let, If, Find, Binder}
use Rattle.cv_syntax_trees.specs.Tree.{Tree, Empty, Node, first_place, second_place}
use Rattle.cv_meaning.specs.Tapes.{Cell, Tape, Key_at, Picked_at, same_cell, cells_of, is_in}
use Rattle.cv_meaning.specs.Side.{CallNumber, Arrays, OracleCall, OracleAnswer}
use Rattle.cv_meaning.specs.Interpretation.{Interpretation}
use Rattle.cv_meaning.specs.Terms.{is_one}
use Rattle.cv_meaning.specs.Cells.{without_repeats}
use Rattle.cv_meaning_laws.proofs.Counts.{same_cell_exact}
use Rattle.cv_meaning_laws.proofs.Listed.{Sized, Has, has_left, has_right, distinct_without_repeats, is_in_without_repeats, all_filtered}
use Rattle.cv_meaning.specs.contexts.Groups.{Function}
use Rattle.cv_meaning.specs.contexts.Frames.{IsValue, Frame, assigned, with_call}
use Rattle.cv_meaning.specs.contexts.BodyTerms.{body_value}
use Rattle.cv_meaning.specs.contexts.Finds.{Oracles, Pick, picks, picked}
use Rattle.cv_meaning.specs.contexts.Bodies.{with_arguments, with_chosen, with_coins, after_pick, body_place, body_answer, branch_answer, function_called, function_answer, reply}
use Rattle.cv_meaning.specs.contexts.OwnCells.{IsOfCall}
use Rattle.cv_meaning.specs.contexts.Sides.{chosen_cell, cells_here, body_cells, function_cells, side_from}

agree_in : (t s : Tape) (cs : List Sized) (c : Cell) → AllByRecursion (λ c. t c ≡ s c) (cells_of cs) → is_in cs c ≡ true → t c ≡ s c
agree_in t s [] c h k = absurd (both_ways _ refl k)
agree_in t s (d ∷ cs) c h k = go (same_cell d.0 c) refl k (agree_in t s cs c h.1)
  where
    go : (b : Bool) → same_cell d.0 c ≡ b → (b || is_in cs c) ≡ true → (is_in cs c ≡ true → t c ≡ s c) → t c ≡ s c
    go true e k more = subst (λ z. t z ≡ s z) (same_cell_exact d.0 c e) h.0
    go false e k more = more k

-- the tapes agree in all cells that a body can read
abbrev Agree : Interpretation → CallNumber → Tape → Tape → ℕ → Tree → Type 0
Agree i n t s p b = (c : Sized) → Has (body_cells i n p b) c → t c.0 ≡ s c.0

in_first : (i : Interpretation) (n : CallNumber) (t s : Tape) (p : ℕ) (h : Head) (a b : Tree) → Agree i n t s p (Node h a b) → Agree i n t s (first_place p h) a
unfolding body_cells
in_first i n t s p h a b g c k = g c (has_right (cells_here i n p h) _ c (has_left (body_cells i n (first_place p h) a) (body_cells i n (second_place p h a) b) c k))

in_second : (i : Interpretation) (n : CallNumber) (t s : Tape) (p : ℕ) (h : Head) (a b : Tree) → Agree i n t s p (Node h a b) → Agree i n t s (second_place p h a) b
unfolding body_cells
in_second i n t s p h a b g c k = g c (has_right (cells_here i n p h) _ c (has_right (body_cells i n (first_place p h) a) (body_cells i n (second_place p h a) b) c k))

same_choice : (f g : ℕ → CallNumber → OracleAnswer) (d e : OracleAnswer) → ((k : ℕ) (n : CallNumber) → f k n ≡ g k n) → d ≡ e → (c : Option Pick) → after_pick f d c ≡ after_pick g e c
same_choice f g d e h k None = k
same_choice f g d e h k (Some c) = h c.branch c.number

mutual
  unfolding body_answer branch_answer body_cells

  same_answer : (o : Oracles) (t s : Tape) (e : Frame) (q : ℕ) (b : Tree) → Agree o.setting.interpretation e.number t s q b → body_answer o t e q b ≡ body_answer o s e q b
  same_answer o t s e q (Node (New x T) a b) h =
      ap (λ v. body_answer o t (assigned e x v) (second_place q (New x T) a) b) (h (chosen_cell o.setting.interpretation e.number (x, T)) (inl refl))
      ∙ same_answer o t s (with_chosen s e x) (second_place q (New x T) a) b (in_second o.setting.interpretation e.number t s q (New x T) a b h)
  same_answer o t s e q (Node (Let x T) a b) h = same_answer o t s (assigned e x (body_value o.setting e a)) (second_place q (Let x T) a) b (in_second o.setting.interpretation e.number t s q (Let x T) a b h)
  same_answer o t s e q (Node If a (Node j b (Node k c d))) h =
      let r : ℕ = second_place q If a in
      let inside : Agree o.setting.interpretation e.number t s r (Node j b (Node k c d)) = in_second o.setting.interpretation e.number t s q If a (Node j b (Node k c d)) h in
      ap₂ (λ (y z : OracleAnswer). if is_one (body_value o.setting e a) then y else z)
      (same_answer o t s e (first_place r j) b (in_first o.setting.interpretation e.number t s r j b (Node k c d) inside))
      (same_answer o t s e (first_place (second_place r j b) k) c (in_first o.setting.interpretation e.number t s (second_place r j b) k c d (in_second o.setting.interpretation e.number t s r j b (Node k c d) inside)))
  same_answer o t s e q (Node (Find l) a b) h =
      ap (λ v. after_pick (branch_answer o t e (first_place q (Find l)) a) (body_answer o t e (second_place q (Find l) a) b) (picked (picks o e a) v)) (h (Picked_at q e.number.tuple e.number.site, o.setting.interpretation.choices) (inl refl))
      ∙ same_choice (branch_answer o t e (first_place q (Find l)) a) (branch_answer o s e (first_place q (Find l)) a) (body_answer o t e (second_place q (Find l) a) b) (body_answer o s e (second_place q (Find l) a) b)
      (same_branch o t s e (first_place q (Find l)) a (in_first o.setting.interpretation e.number t s q (Find l) a b h))
      (same_answer o t s e (second_place q (Find l) a) b (in_second o.setting.interpretation e.number t s q (Find l) a b h))
      (picked (picks o e a) (s (Picked_at q e.number.tuple e.number.site)))
  same_answer o t s e q m h = refl

  same_branch : (o : Oracles) (t s : Tape) (e : Frame) (q : ℕ) (bs : Tree) → Agree o.setting.interpretation e.number t s q bs → (k : ℕ) (n : CallNumber) → branch_answer o t e q bs k n ≡ branch_answer o s e q bs k n
  same_branch o t s e q (Node h (Node k (Node (Binder u m) a b) (Node i cells (Node j condition c))) more) g zero n =
      let p : Interpretation = o.setting.interpretation in
      same_answer o t s (with_call e u n) (body_place q h k (Node (Binder u m) a b) i cells j condition) c
      (in_second p e.number t s _ j condition c
      (in_second p e.number t s _ i cells (Node j condition c)
      (in_second p e.number t s _ k (Node (Binder u m) a b) (Node i cells (Node j condition c))
      (in_first p e.number t s q h (Node k (Node (Binder u m) a b) (Node i cells (Node j condition c))) more g))))
  same_branch o t s e q (Node h branch more) g (suc k) n = same_branch o t s e (second_place q h branch) more (in_second o.setting.interpretation e.number t s q h branch more g) k n
  same_branch o t s e q _ g k n = refl

-- the coins

same_coins : (i : Interpretation) (t s : Tape) (e : Frame) (xs : List (ℕ × ℕ)) → ((c : Sized) → Has (map (chosen_cell i e.number) xs) c → t c.0 ≡ s c.0) → with_coins t e xs ≡ with_coins s e xs
same_coins i t s e [] h = refl
same_coins i t s e (x ∷ xs) h =
    ap (λ v. with_coins t (assigned e x.0 v) xs) (h (chosen_cell i e.number x) (inl refl)) ∙ same_coins i t s (with_chosen s e x.0) xs (λ c k. h c (inr k))

kept_number : (t : Tape) (e : Frame) (xs : List (ℕ × ℕ)) → (with_coins t e xs).number ≡ e.number
kept_number t e [] = refl
kept_number t e (x ∷ xs) = kept_number t (with_chosen t e x.0) xs

given_number : (e : Frame) (xs : List (ℕ × ℕ)) (vs : List ℕ) → (with_arguments e xs vs).number ≡ e.number
given_number e [] vs = refl
given_number e (x ∷ xs) [] = refl
given_number e (x ∷ xs) (v ∷ vs) = given_number (assigned e x.0 v) xs vs

same_function : (o : Oracles) (t s : Tape) (m : Arrays) (call : OracleCall) (f : Option Function) →
    t (Key_at call.key) ≡ s (Key_at call.key) →
    AllByRecursion (λ c. t c ≡ s c) (cells_of (function_cells o.setting.interpretation call.number f)) →
    function_answer o t m call f ≡ function_answer o s m call f
same_function o t s m call None key cells = refl
same_function o t s m call (Some f) key cells =
    ap (λ v. body_answer o t (given (with_coins t (begun_with v) f.coins)) 0 f.body) key
    ∙ ap (λ e. body_answer o t (given e) 0 f.body) (same_coins i t s first f.coins (λ c k. at_number first.number c refl (has_left (map (chosen_cell i first.number) f.coins) (body_cells i first.number 0 f.body) c k)))
    ∙ same_answer o t s whole 0 f.body (λ c k. at_number whole.number c number_is (has_right (map (chosen_cell i whole.number) f.coins) (body_cells i whole.number 0 f.body) c k))
  where
    i : Interpretation
    i = o.setting.interpretation

    begun_with : ℕ → Frame
    begun_with v = record { key = call.key; number = call.number; names = (o.group.key.0, IsValue v) ∷ []; arrays = m }

    given : Frame → Frame
    given e = with_arguments e f.arguments call.arguments

    first : Frame
    first = begun_with (s (Key_at call.key))

    whole : Frame
    whole = given (with_coins s first f.coins)

    number_is : whole.number ≡ call.number
    number_is = given_number (with_coins s first f.coins) f.arguments call.arguments ∙ kept_number s first f.coins

    at_number : (n : CallNumber) (c : Sized) → n ≡ call.number → Has (map (chosen_cell i n) f.coins ++ body_cells i n 0 f.body) c → t c.0 ≡ s c.0
    at_number n c e k =
        let there : Has (map (chosen_cell i call.number) f.coins ++ body_cells i call.number 0 f.body) c = subst (λ n. Has (map (chosen_cell i n) f.coins ++ body_cells i n 0 f.body) c) e k in
        agree_in t s (without_repeats (map (chosen_cell i call.number) f.coins ++ body_cells i call.number 0 f.body)) c.0 cells (is_in_without_repeats (map (chosen_cell i call.number) f.coins ++ body_cells i call.number 0 f.body) c there)

pub local : (o : Oracles) (t s : Tape) (m : Arrays) (call : OracleCall) →
    AllByRecursion (λ c. t c ≡ s c) (Key_at call.key ∷ cells_of ((side_from o).cells call.number)) →
    (side_from o).reply t m call ≡ (side_from o).reply s m call
unfolding reply
local o t s m call h = same_function o t s m call (function_called o call.number) h.0 h.1

once_listed : (i : Interpretation) (n : CallNumber) (f : Option Function) → IsDistinct same_cell (cells_of (function_cells i n f))
unfolding IsDistinct
once_listed i n None = tt
once_listed i n (Some f) = distinct_without_repeats (map (chosen_cell i n) f.coins ++ body_cells i n 0 f.body)

pub once : (o : Oracles) (n : CallNumber) → IsDistinct same_cell (cells_of ((side_from o).cells n))
once o n = once_listed o.setting.interpretation n (function_called o n)

-- each cell is of the call

unrepeated : (P : Cell → Type 0) (cs : List Sized) → AllByRecursion P (cells_of cs) → AllByRecursion P (cells_of (without_repeats cs))
unrepeated P [] h = tt
unrepeated P (c ∷ cs) h = (h.0, all_filtered P (λ (d : Sized). not (same_cell d.0 c.0)) (without_repeats cs) (unrepeated P cs h.1))

joined : (P : Cell → Type 0) (cs ds : List Sized) → AllByRecursion P (cells_of cs) → AllByRecursion P (cells_of ds) → AllByRecursion P (cells_of (cs ++ ds))
joined P [] ds h k = k
joined P (c ∷ cs) ds h k = (h.0, joined P cs ds h.1 k)

coins_own : (i : Interpretation) (n : CallNumber) (xs : List (ℕ × ℕ)) → AllByRecursion (IsOfCall n) (cells_of (map (chosen_cell i n) xs))
coins_own i n [] = tt
coins_own i n (x ∷ xs) = ((refl, refl), coins_own i n xs)

here_own : (i : Interpretation) (n : CallNumber) (p : ℕ) (h : Head) → AllByRecursion (IsOfCall n) (cells_of (cells_here i n p h))
here_own i n p (New x T) = ((refl, refl), tt)
here_own i n p (Find l) = ((refl, refl), tt)
here_own i n p h = tt

body_own : (i : Interpretation) (n : CallNumber) (p : ℕ) (b : Tree) → AllByRecursion (IsOfCall n) (cells_of (body_cells i n p b))
unfolding body_cells
body_own i n p Empty = tt
body_own i n p (Node h a b) =
    joined (IsOfCall n) (cells_here i n p h) (body_cells i n (first_place p h) a ++ body_cells i n (second_place p h a) b) (here_own i n p h) (joined (IsOfCall n) (body_cells i n (first_place p h) a) (body_cells i n (second_place p h a) b) (body_own i n (first_place p h) a) (body_own i n (second_place p h a) b))

own_listed : (i : Interpretation) (n : CallNumber) (f : Option Function) → AllByRecursion (IsOfCall n) (cells_of (function_cells i n f))
own_listed i n None = tt
own_listed i n (Some f) =
    unrepeated (IsOfCall n) (map (chosen_cell i n) f.coins ++ body_cells i n 0 f.body) (joined (IsOfCall n) (map (chosen_cell i n) f.coins) (body_cells i n 0 f.body) (coins_own i n f.coins) (body_own i n 0 f.body))

pub own : (o : Oracles) (n : CallNumber) → AllByRecursion (IsOfCall n) (cells_of ((side_from o).cells n))
own o n = own_listed o.setting.interpretation n (function_called o n)
