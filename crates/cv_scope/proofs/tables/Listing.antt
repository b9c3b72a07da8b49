-- Listed cells by their numbers.
use Rattle.std.proofs.Common.{◌≡◌, ℕ, zero, suc, ◌<◌, Bool, true, false, ◌⊎◌, inl, inr, List, [], ◌∷◌, ◌++◌, length, take, refl, ap, sym, ◌∙◌, arith, subst, Option, Some, None, nat_eq, eqb-true, get_or}
use Rattle.std.specs.HashMap.{get, IsUnchanged, Updates}
use Rattle.std.specs.Map.{lookup}
use Rattle.std.proofs.lemmas.Bool.{or_cases, or_left, or_right, both_ways, eq-eqb, ne_eqb}
use Rattle.cv_pool.specs.declared.node.NodeId.{NodeId}
use Rattle.cv_scope.specs.tables.Ordered.{AreNumbersPlaced, IsPlacedBy, MapFrom, has_number, is_node}

abbrev Cells : Type 0
Cells = List (Option NodeId)

-- places of numbers

numbered_at : (cells : Cells) (n : ℕ) → has_number cells n ≡ true → (k : ℕ) × (c : NodeId) × (get_or cells k None ≡ Some c) × (c.0 ≡ n)
numbered_at [] n h = absurd (both_ways _ refl h)
numbered_at (None ∷ cs) n h = let r = numbered_at cs n h in (suc r.0, r.1, r.2, r.3)
numbered_at (Some c ∷ cs) n h = elim (or_cases (nat_eq n c.0) (has_number cs n) h) [
  | inl m ↦ (zero, c, refl, sym (eqb-true n c.0 m))
  | inr m ↦ let r = numbered_at cs n m in (suc r.0, r.1, r.2, r.3)
]

at_numbered : (cells : Cells) (k : ℕ) (c : NodeId) (n : ℕ) → get_or cells k None ≡ Some c → n ≡ c.0 → has_number cells n ≡ true
at_numbered [] k c n h e = absurd (cc)
at_numbered (None ∷ cs) zero c n h e = absurd (cc)
at_numbered (Some d ∷ cs) zero c n h e = let s : d ≡ c = cc in or_left (nat_eq n d.0) _ (eq-eqb n d.0 (e ∙ ap (λ (x : NodeId). x.0) (sym s)))
at_numbered (d ∷ cs) (suc k) c n h e = or_right (is_node n d) _ (at_numbered cs k c n h e)

-- a number that a cell has, has its place in the table
placed_at : (cells : Cells) (m : MapFrom ℕ ℕ) (n : ℕ) → AreNumbersPlaced cells m → has_number cells n ≡ true → (k : ℕ) × IsPlacedBy cells m k n
placed_at cells m n i h =
    let r = numbered_at cells n h in
    (r.0, subst (IsPlacedBy cells m r.0) r.3 (i r.0 r.1 r.2))

not_numbered : (cells : Cells) (m : MapFrom ℕ ℕ) (n : ℕ) → AreNumbersPlaced cells m → ((k : ℕ) → IsPlacedBy cells m k n → ⊥) → false ≡ has_number cells n
not_numbered cells m n i f = go (has_number cells n) refl
  where
    go : (b : Bool) → has_number cells n ≡ b → false ≡ b
    go false e = refl
    go true e = let r = placed_at cells m n i e in absurd (f r.0 r.1)

pub number_there : (cells : Cells) (m : MapFrom ℕ ℕ) (n k : ℕ) (c : NodeId) → AreNumbersPlaced cells m → get nat_eq m n ≡ Some k → get_or cells k None ≡ Some c → nat_eq c.0 n ≡ has_number cells n
number_there cells m n k c i g s = go (nat_eq c.0 n) refl
  where
    go : (b : Bool) → nat_eq c.0 n ≡ b → b ≡ has_number cells n
    go true e = sym (at_numbered cells k c n s (sym (eqb-true c.0 n e)))
    go false e = not_numbered cells m n i (λ j p.
        let known = p.known in
        let same : p.place ≡ k = cc in
        let there : get_or cells k None ≡ Some p.node = subst (λ x. get_or cells x None ≡ Some p.node) same p.there in
        let cell : p.node ≡ c = cc in
        absurd (both_ways _ e (eq-eqb c.0 n (ap (λ (x : NodeId). x.0) (sym cell) ∙ p.same))))

pub number_past : (cells : Cells) (m : MapFrom ℕ ℕ) (n k : ℕ) → AreNumbersPlaced cells m → get nat_eq m n ≡ Some k → get_or cells k None ≡ None → false ≡ has_number cells n
number_past cells m n k i g s = not_numbered cells m n i (λ j p.
    let known = p.known in
    let same : p.place ≡ k = cc in
    let there : get_or cells k None ≡ Some p.node = subst (λ x. get_or cells x None ≡ Some p.node) same p.there in
    absurd (cc))

pub number_unknown : (cells : Cells) (m : MapFrom ℕ ℕ) (n : ℕ) → AreNumbersPlaced cells m → get nat_eq m n ≡ None → false ≡ has_number cells n
number_unknown cells m n i g = not_numbered cells m n i (λ j p. let known = p.known in absurd (cc))

-- one more cell

at_front : (cells : Cells) (x : Option NodeId) (k : ℕ) (d : NodeId) → get_or cells k None ≡ Some d → get_or (cells ++ x ∷ []) k None ≡ Some d
at_front [] x k d h = absurd (cc)
at_front (e ∷ cells) x zero d h = h
at_front (e ∷ cells) x (suc k) d h = at_front cells x k d h

at_end : (cells : Cells) (x : Option NodeId) → get_or (cells ++ x ∷ []) (length cells) None ≡ x
at_end [] x = refl
at_end (e ∷ cells) x = at_end cells x

before_or_last : (cells : Cells) (x : Option NodeId) (k : ℕ) (d : NodeId) → get_or (cells ++ x ∷ []) k None ≡ Some d → (get_or cells k None ≡ Some d) ⊎ ((length cells ≡ k) × (x ≡ Some d))
before_or_last [] x zero d s = inr (refl, s)
before_or_last [] x (suc k) d s = absurd (cc)
before_or_last (e ∷ cells) x zero d s = inl s
before_or_last (e ∷ cells) x (suc k) d s = elim (before_or_last cells x k d s) [ inl a ↦ inl a | inr b ↦ inr (ap suc b.0, b.1) ]

below_length : (cells : Cells) (k : ℕ) (c : NodeId) → get_or cells k None ≡ Some c → k < length cells
below_length [] k c h = absurd (cc)
below_length (e ∷ cells) zero c h = omega arith
below_length (e ∷ cells) (suc k) c h = let l = below_length cells k c h in omega arith

still_placed : (cells : Cells) (x : Option NodeId) (m : MapFrom ℕ ℕ) (k n : ℕ) → IsPlacedBy cells m k n → IsPlacedBy (cells ++ x ∷ []) m k n
still_placed cells x m k n p = record { place = p.place; node = p.node; known = p.known; before = p.before; there = at_front cells x p.place p.node p.there; same = p.same }

placed_more : (cells : Cells) (x : Option NodeId) (m : MapFrom ℕ ℕ) → AreNumbersPlaced cells m → ((c : NodeId) → x ≡ Some c → IsPlacedBy (cells ++ x ∷ []) m (length cells) c.0) → AreNumbersPlaced (cells ++ x ∷ []) m
placed_more cells x m i last k d s = elim (before_or_last cells x k d s) [
  | inl a ↦ still_placed cells x m k d.0 (i k d a)
  | inr b ↦ subst (λ j. IsPlacedBy (cells ++ x ∷ []) m j d.0) b.0 (last d b.1)
]

-- no node
pub placed_none : (cells : Cells) (m : MapFrom ℕ ℕ) → AreNumbersPlaced cells m → AreNumbersPlaced (cells ++ None ∷ []) m
placed_none cells m i = placed_more cells None m i (λ c e. absurd (cc))

-- a node that is there
pub placed_again : (cells : Cells) (c : NodeId) (m : MapFrom ℕ ℕ) → AreNumbersPlaced cells m → has_number cells c.0 ≡ true → AreNumbersPlaced (cells ++ Some c ∷ []) m
placed_again cells c m i h =
    let r = numbered_at cells c.0 h in
    let p = subst (IsPlacedBy cells m r.0) r.3 (i r.0 r.1 r.2) in
    let l = below_length cells r.0 r.1 r.2 in
    placed_more cells (Some c) m i (λ d e.
    let s : c ≡ d = cc in
    subst (λ (y : NodeId). IsPlacedBy (cells ++ Some c ∷ []) m (length cells) y.0) s (record { place = p.place; node = p.node; known = p.known; before = omega (arith, p.before, l); there = at_front cells (Some c) p.place p.node p.there; same = p.same }))

-- a node with a new number
pub placed_new : (cells : Cells) (c : NodeId) (m : MapFrom ℕ ℕ) → AreNumbersPlaced cells m → get nat_eq m c.0 ≡ Some (length cells) → AreNumbersPlaced (cells ++ Some c ∷ []) m
placed_new cells c m i g = placed_more cells (Some c) m i (λ d e.
    let s : c ≡ d = cc in
    subst (λ (y : NodeId). IsPlacedBy (cells ++ Some c ∷ []) m (length cells) y.0) s (record { place = length cells; node = c; known = g; before = omega arith; there = at_end cells (Some c); same = refl }))

-- the table learns a number that no cell has
pub placed_other : (cells : Cells) (m m' : MapFrom ℕ ℕ) (n : ℕ) (w : Option ℕ) → AreNumbersPlaced cells m → has_number cells n ≡ false → Updates nat_eq m m' n w → AreNumbersPlaced cells m'
placed_other cells m m' n w i h u k d s =
    let p = i k d s in
    record { place = p.place; node = p.node; known = u.2 d.0 (ne_eqb n d.0 (λ e. absurd (both_ways _ h (at_numbered cells k d n s e)))) ∙ p.known; before = p.before; there = p.there; same = p.same }

pub placed_same : (cells : Cells) (m m' : MapFrom ℕ ℕ) → AreNumbersPlaced cells m → IsUnchanged m m' → AreNumbersPlaced cells m'
placed_same cells m m' i e k c s = let p = i k c s in record { place = p.place; node = p.node; known = ap (lookup (nat_eq c.0)) e ∙ p.known; before = p.before; there = p.there; same = p.same }

-- the first cells

at_take : (n : ℕ) (cells : Cells) (k : ℕ) (c : NodeId) → get_or (take n cells) k None ≡ Some c → (get_or cells k None ≡ Some c) × (k < n)
at_take zero cells k c h = absurd (cc)
at_take (suc n) [] k c h = absurd (cc)
at_take (suc n) (e ∷ cells) zero c h = (h, omega arith)
at_take (suc n) (e ∷ cells) (suc k) c h = let r = at_take n cells k c h in (r.0, omega (arith, r.1))

take_at : (n : ℕ) (cells : Cells) (k : ℕ) (c : NodeId) → k < n → get_or cells k None ≡ Some c → get_or (take n cells) k None ≡ Some c
take_at zero cells k c l h = absurd (omega arith)
take_at (suc n) [] k c l h = absurd (cc)
take_at (suc n) (e ∷ cells) zero c l h = h
take_at (suc n) (e ∷ cells) (suc k) c l h = take_at n cells k c (omega arith) h

pub placed_front : (n : ℕ) (cells : Cells) (m : MapFrom ℕ ℕ) → AreNumbersPlaced cells m → AreNumbersPlaced (take n cells) m
placed_front n cells m i k c s =
    let r = at_take n cells k c s in
    let p = i k c r.0 in
    record { place = p.place; node = p.node; known = p.known; before = p.before; there = take_at n cells p.place p.node (omega (arith, p.before, r.1)) p.there; same = p.same }
