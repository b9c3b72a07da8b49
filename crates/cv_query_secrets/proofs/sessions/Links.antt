-- The draws that the copies of a variable took, as the visits of a run tell them.
use Rattle.std.proofs.Common.{◌≡◌, ℕ, ◌==◌, zero, suc, Bool, true, false, cond, List, [], ◌∷◌, ◌++◌, ◌⊎◌, inl, inr, Option, Some, None, refl, sym, ap, subst, ◌∙◌, eqb-true, eq-eqb}
use Rattle.std.proofs.lemmas.Bool.{both_ways}
use Rattle.std.specs.List.{AllByRecursion}
use Rattle.cv_syntax_trees.specs.declared.head.Head.TheVariants.{Leaf, Let, Read}
use Rattle.cv_syntax_trees.specs.Tree.{Tree, Empty, Node}
use Rattle.cv_meaning.specs.Interpretation.{Setting}
use Rattle.cv_meaning.specs.Memory.{Local, tuple}
use Rattle.cv_meaning.specs.Serving.{Visit}
use Rattle.cv_meaning.specs.Tapes.{Cell, New_at}
use Rattle.cv_meaning.specs.Terms.{values_here}
use Rattle.cv_meaning_laws.specs.adequacy.Broken.{StandsAt}
use Rattle.cv_meaning_laws.proofs.Listed.{has_left, has_right}
use Rattle.cv_meaning_laws.proofs.adequacy.Lists.{has_append}
use Rattle.cv_query_secrets.proofs.sessions.Exchange.{IsPaired, Pair}

-- the draw of which a term has the value
abbrev pub drawn_by : Setting → Tree → Local → Option Cell
drawn_by g (Node (Leaf y) a b) l = Some (New_at y [])
drawn_by g (Node (Read y) ms b) l = Some (New_at y (values_here g l ms))
drawn_by g t l = None

abbrev pub with_tuple : List ℕ → Option Cell → List Pair
with_tuple w None = []
with_tuple w (Some d) = (w, d) ∷ []

module _ (g : Setting) (x : ℕ) where
  -- what a visit pairs, if it is that of a copy
  abbrev pub pair_at : Tree → Local → List Pair
  pair_at (Node (Let z T) m b) l = cond (z == x) (with_tuple (tuple l.indices) (drawn_by g m l)) []
  pair_at t l = []

  unfoldable pub pairs_of : List Visit → List Pair
  pairs_of [] = []
  pairs_of (v ∷ vs) = pair_at v.tree v.before ++ pairs_of vs

  -- a visit of a copy pairs the two
  pub record IsCopiedAt (vs : List Visit) (r : Pair) : Type 0 where
    pub number : ℕ
    pub visit : Visit
    pub stands : StandsAt vs number visit
    pub type : ℕ
    pub term : Tree
    pub next : Tree
    pub tree : visit.tree ≡ Node (Let x type) term next
    pub copy : tuple visit.before.indices ≡ r.0
    pub cell : drawn_by g term visit.before ≡ Some r.1

  in_one : (w : List ℕ) (o : Option Cell) (r : Pair) → IsPaired (with_tuple w o) r → (w ≡ r.0) × (o ≡ Some r.1)
  in_one w None r p = absurd p
  in_one w (Some d) r (inl e) = (ap (λ (q : Pair). q.0) (sym e), ap (λ (q : Pair). Some q.1) (sym e))
  in_one w (Some d) r (inr p) = absurd p

  copied_here : (v : Visit) (vs : List Visit) (r : Pair) → IsPaired (pair_at v.tree v.before) r → IsCopiedAt (v ∷ vs) r
  copied_here v vs r p = go v.tree refl p
    where
      go : (t : Tree) → v.tree ≡ t → IsPaired (pair_at t v.before) r → IsCopiedAt (v ∷ vs) r
      go (Node (Let z T) m b) e p = name (z == x) refl p
        where
          name : (c : Bool) → (z == x) ≡ c → IsPaired (cond c (with_tuple (tuple v.before.indices) (drawn_by g m v.before)) []) r → IsCopiedAt (v ∷ vs) r
          name true k p =
              let one = in_one (tuple v.before.indices) (drawn_by g m v.before) r p in
              record { number = 0; visit = v; stands = refl; type = T; term = m; next = b; tree = e ∙ ap (λ y. Node (Let y T) m b) (eqb-true z x k); copy = one.0; cell = one.1 }
          name false k p = absurd p
      go t e p = absurd p

  copied_later : (v : Visit) (vs : List Visit) (r : Pair) → IsCopiedAt vs r → IsCopiedAt (v ∷ vs) r
  copied_later v vs r c = record { number = suc c.number; visit = c.visit; stands = c.stands; type = c.type; term = c.term; next = c.next; tree = c.tree; copy = c.copy; cell = c.cell }

  pub copied_at : (vs : List Visit) (r : Pair) → IsPaired (pairs_of vs) r → IsCopiedAt vs r
  unfolding pairs_of
  copied_at [] r p = absurd p
  copied_at (v ∷ vs) r p = go (has_append (pair_at v.tree v.before) (pairs_of vs) r p) (copied_at vs r)
    where
      go : IsPaired (pair_at v.tree v.before) r ⊎ IsPaired (pairs_of vs) r → (IsPaired (pairs_of vs) r → IsCopiedAt vs r) → IsCopiedAt (v ∷ vs) r
      go (inl q) ih = copied_here v vs r q
      go (inr q) ih = copied_later v vs r (ih q)

  -- what a visit pairs is among what they all do

  abbrev pub ArePairedIn : List Pair → Visit → Type 0
  ArePairedIn rs v = (r : Pair) → IsPaired (pair_at v.tree v.before) r → IsPaired rs r

  all_paired_in : (rs : List Pair) (vs : List Visit) → ((r : Pair) → IsPaired (pairs_of vs) r → IsPaired rs r) → AllByRecursion (ArePairedIn rs) vs
  unfolding pairs_of
  all_paired_in rs [] h = tt
  all_paired_in rs (v ∷ vs) h =
      (λ r p. h r (has_left (pair_at v.tree v.before) (pairs_of vs) r p), all_paired_in rs vs (λ r p. h r (has_right (pair_at v.tree v.before) (pairs_of vs) r p)))

  pub all_paired : (vs : List Visit) → AllByRecursion (ArePairedIn (pairs_of vs)) vs
  all_paired vs = all_paired_in (pairs_of vs) vs (λ r p. p)

  pub pair_of_leaf : (T y : ℕ) (a d b : Tree) (l : Local) → IsPaired (pair_at (Node (Let x T) (Node (Leaf y) a d) b) l) (tuple l.indices, New_at y [])
  pair_of_leaf T y a d b l = subst (λ c. IsPaired (cond c ((tuple l.indices, New_at y []) ∷ []) []) (tuple l.indices, New_at y [])) (sym (eq-eqb x x refl)) (inl refl)

  pub pair_of_read : (T y : ℕ) (ms d b : Tree) (l : Local) → IsPaired (pair_at (Node (Let x T) (Node (Read y) ms d) b) l) (tuple l.indices, New_at y (values_here g l ms))
  pair_of_read T y ms d b l =
      subst (λ c. IsPaired (cond c ((tuple l.indices, New_at y (values_here g l ms)) ∷ []) []) (tuple l.indices, New_at y (values_here g l ms))) (sym (eq-eqb x x refl)) (inl refl)
