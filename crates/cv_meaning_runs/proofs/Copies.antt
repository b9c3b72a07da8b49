-- The copies of inputs that a process opens, and the spots at and below them.
use Rattle.std.proofs.Common.{◌≡◌, ℕ, zero, suc, ◌+◌, ◌<◌, ◌≤◌, List, [], ◌∷◌, ◌++◌, ◌⊎◌, inl, inr, refl, sym, ap, subst, ◌∙◌, arith, flat_map, append_assoc}
use Rattle.std.specs.List.{AllByRecursion}
use Rattle.cv_syntax_trees.specs.declared.head.Head.TheVariants.{Par, Repl, In}
use Rattle.cv_syntax_trees.specs.Tree.{Tree, Empty, Node, size, first_place, second_place}
use Rattle.cv_meaning.specs.Interpretation.{Setting}
use Rattle.cv_meaning.specs.Memory.{Indices, tuple}
use Rattle.cv_meaning.specs.Candidates.{below}
use Rattle.cv_meaning.specs.Inputs.{Input, inputs_of}
use Rattle.cv_meaning_runs.proofs.Lists.{Pairwise, pairwise_append}
use Rattle.cv_meaning_runs.specs.Spots.{Spot, spot_of_input}
use Rattle.cv_meaning_laws.proofs.Listed.{tuple_push}
use Rattle.cv_syntax_trees.proofs.lists.Each.{AllByRecursion_append, AllByRecursion_weaker, AllByRecursion_cross}

-- the spots below a node, and those of a copy of an input

pub Extends : List ℕ → List ℕ → Type 0
Extends u w = (rest : List ℕ) × (u ≡ w ++ rest)

pub record IsBetween (low high : ℕ) (w : List ℕ) (s : Spot) : Type 0 where
  pub after : low ≤ s.place
  pub before : s.place < high
  pub extends : Extends s.tuple w

abbrev pub Under : Tree → ℕ → List ℕ → Spot → Type 0
Under b p w = IsBetween p (p + size b) w

abbrev pub Within : Input → Spot → Type 0
Within i = Under i.tree i.place (tuple i.indices)

abbrev pub Apart : Input → Input → Type 0
Apart i j = (s : Spot) → Within i s → Within j s → ⊥

pub apart_back : (i j : Input) → Apart i j → Apart j i
apart_back i j h s x y = h s y x

pub extends_one : (w : List ℕ) (v n : ℕ) (u : List ℕ) → Extends u (w ++ v ∷ []) → Extends u (w ++ n ∷ []) → v ≡ n
unfolding Extends
extends_one [] v n u e f = let q : v ∷ e.0 ≡ n ∷ f.0 = sym e.1 ∙ f.1 in cc
extends_one (x ∷ w) v n [] e f = let q : [] ≡ x ∷ ((w ++ v ∷ []) ++ e.0) = e.1 in cc
extends_one (x ∷ w) v n (y ∷ u) e f =
    let d : u ≡ (w ++ v ∷ []) ++ e.0 = let q : y ∷ u ≡ x ∷ ((w ++ v ∷ []) ++ e.0) = e.1 in cc in
    let g : u ≡ (w ++ n ∷ []) ++ f.0 = let q : y ∷ u ≡ x ∷ ((w ++ n ∷ []) ++ f.0) = f.1 in cc in
    extends_one w v n u (e.0, d) (f.0, g)

pub extends_refl : (w : List ℕ) → Extends w w
unfolding Extends
extends_refl [] = ([], refl)
extends_refl (x ∷ w) = let r = extends_refl w in (r.0, ap (λ u. x ∷ u) r.1)

pub extends_less : (u w x : List ℕ) → Extends u (w ++ x) → Extends u w
unfolding Extends
extends_less u w x e = (x ++ e.0, e.1 ∙ append_assoc w x e.0)

-- copies that are apart, with all of their spots among those of P

pub record Copies (P : Spot → Type 0) (is : List Input) : Type 0 where
  pub own : AllByRecursion (λ i. Within i (spot_of_input i)) is
  pub among : AllByRecursion (λ i. (s : Spot) → Within i s → P s) is
  pub apart : Pairwise Apart is

pub copies_among : (P Q : Spot → Type 0) → ((s : Spot) → P s → Q s) → (is : List Input) → Copies P is → Copies Q is
copies_among P Q h is c = record { own = c.own; among = AllByRecursion_weaker (λ i. (s : Spot) → Within i s → P s) _ (λ i k s w. h s (k s w)) is c.among; apart = c.apart }

pub copies_append : (P Q R : Spot → Type 0) → ((s : Spot) → P s → R s) → ((s : Spot) → Q s → R s) → ((s : Spot) → P s → Q s → ⊥) → (is js : List Input) → Copies P is → Copies Q js → Copies R (is ++ js)
copies_append P Q R f k h is js c d = record {
  own = AllByRecursion_append _ is js c.own d.own;
  among = AllByRecursion_append _ is js (copies_among P R f is c).among (copies_among Q R k js d).among;
  apart = pairwise_append Apart is js c.apart d.apart (AllByRecursion_cross (λ i. (s : Spot) → Within i s → P s) (λ j. (s : Spot) → Within j s → Q s) Apart (λ i j x y s a b. h s (x s a) (y s b)) is js c.among d.among);
}

abbrev pub InOne : (ℕ → Spot → Type 0) → List ℕ → Spot → Type 0
InOne P [] s = ⊥
InOne P (v ∷ vs) s = P v s ⊎ InOne P vs s

pub copies_each : (P : ℕ → Spot → Type 0) → ((v w : ℕ) (s : Spot) → P v s → P w s → v ≡ w) → (f : ℕ → List Input) → ((v : ℕ) → Copies (P v) (f v)) → (vs : List ℕ) → Pairwise (λ v w. v < w) vs → Copies (InOne P vs) (flat_map f vs)
copies_each P h f c [] d = record { own = tt; among = tt; apart = tt }
copies_each P h f c (v ∷ vs) d = copies_append (P v) (InOne P vs) (InOne P (v ∷ vs)) (λ s. inl) (λ s. inr) (λ s x y. none vs d.0 s x y) (f v) (flat_map f vs) (c v) (copies_each P h f c vs d.1)
  where
    none : (ws : List ℕ) → AllByRecursion (λ w. v < w) ws → (s : Spot) → P v s → InOne P ws s → ⊥
    none [] e s x y = y
    none (w ∷ ws) e s x (inl y) = let q : v ≡ w = h v w s x y in let l : v < w = e.0 in absurd (omega arith)
    none (w ∷ ws) e s x (inr y) = none ws e.1 s x y

pub in_one : (P : ℕ → Spot → Type 0) (R : Spot → Type 0) → ((v : ℕ) (s : Spot) → P v s → R s) → (vs : List ℕ) (s : Spot) → InOne P vs s → R s
in_one P R h [] s x = absurd x
in_one P R h (v ∷ vs) s (inl x) = h v s x
in_one P R h (v ∷ vs) s (inr x) = in_one P R h vs s x

pub all_below : (n : ℕ) → AllByRecursion (λ v. v < n) (below n)
all_below zero = tt
all_below (suc n) = AllByRecursion_append (λ v. v < suc n) (below n) (n ∷ []) (AllByRecursion_weaker (λ v. v < n) (λ v. v < suc n) (λ v l. omega arith) (below n) (all_below n)) (omega arith, tt)

pub below_rises : (n : ℕ) → Pairwise (λ v w. v < w) (below n)
below_rises zero = tt
below_rises (suc n) = pairwise_append (λ v w. v < w) (below n) (n ∷ []) (below_rises n) (tt, tt) (AllByRecursion_weaker (λ v. v < n) (λ v. AllByRecursion (λ w. v < w) (n ∷ [])) (λ v l. (l, tt)) (below n) (all_below n))

pub inputs_copies : (g : Setting) (b : Tree) (p : ℕ) (at : Indices) → Copies (Under b p (tuple at)) (inputs_of g b p at)
unfolding inputs_of size
inputs_copies g Empty p at = record { own = tt; among = tt; apart = tt }
inputs_copies g (Node Par a b) p at =
    copies_append (Under a (first_place p Par) (tuple at)) (Under b (second_place p Par a) (tuple at)) (Under (Node Par a b) p (tuple at))
    (λ s x. record { after = omega arith; before = omega arith; extends = x.extends })
    (λ s x. record { after = omega arith; before = omega arith; extends = x.extends })
    (λ s x y. absurd (omega arith)) _ _ (inputs_copies g a _ at) (inputs_copies g b _ at)
inputs_copies g (Node (Repl i n) a b) p at =
    let q : ℕ = second_place p (Repl i n) a in
    let P : ℕ → Spot → Type 0 = λ v. Under b q (tuple (at ++ (i, v) ∷ [])) in
    copies_among (InOne P (below (g.interpretation.parameter_value n))) (Under (Node (Repl i n) a b) p (tuple at))
    (in_one P (Under (Node (Repl i n) a b) p (tuple at)) (λ v s x. record { after = omega arith; before = omega arith; extends = extends_less s.tuple (tuple at) (v ∷ []) (subst (Extends s.tuple) (tuple_push at i v) x.extends) }) (below (g.interpretation.parameter_value n))) _
    (copies_each P (λ v w s x y. extends_one (tuple at) v w s.tuple (subst (Extends s.tuple) (tuple_push at i v) x.extends) (subst (Extends s.tuple) (tuple_push at i w) y.extends)) (λ v. inputs_of g b q (at ++ (i, v) ∷ [])) (λ v. inputs_copies g b q (at ++ (i, v) ∷ [])) (below (g.interpretation.parameter_value n)) (below_rises (g.interpretation.parameter_value n)))
inputs_copies g (Node (In c) a b) p at = record {
  own = (record { after = omega arith; before = omega arith; extends = extends_refl (tuple at) }, tt);
  among = (λ s x. x, tt);
  apart = (tt, tt);
}
inputs_copies g (Node h a b) p at = record { own = tt; among = tt; apart = tt }
