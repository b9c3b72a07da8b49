-- Chains of nodes: one more node, one that is looked for.
use Rattle.std.proofs.Common.{◌≡◌, ◌≢◌, ℕ, zero, suc, ◌+◌, ◌<◌, ◌≤◌, List, [], ◌∷◌, ◌++◌, length, take, refl, ap, sym, ◌∙◌, subst, arith, length-append, get_or, ◌⊎◌, inl, inr, Some}
use Rattle.std.proofs.Math.Nat.{eq-or-lt_of_le}
use Rattle.std.proofs.Math.ListN.{set, length-set}
use Rattle.std.proofs.Math.Seq.{get_or-append_seam}
use Rattle.std.proofs.lemmas.Bool.{cases_order}
use Rattle.std.proofs.lemmas.List.{get_or_append_left, get_or-set_same, get_or-set_other, get_or-take}
use Rattle.std.proofs.lemmas.Option.{get_or_from_slice_get}
use Rattle.std.specs.Prelude.{slice_get}
use Rattle.cv_pool.specs.Bucket.{bucket}
use Rattle.cv_pool.specs.Chain.{IsNewest, AreLinked, bucket_at, no_entry}
use Rattle.cv_pool.specs.declared.node.Entry.{Entry}

same_or_not : (a b : ℕ) → (a ≡ b) ⊎ (a ≢ b)
same_or_not a b = elim (cases_order a b) [
  | inl e ↦ inl e
  | inr o ↦ inr (λ e. elim o [ inl l ↦ absurd (omega arith) | inr l ↦ absurd (omega arith) ])
]

module _ (f : ℕ → ℕ) where
  -- a node of another bucket comes
  newest_other : (n b c : ℕ) → f n ≢ b → IsNewest f n b c → IsNewest f (n + 1) b c
  newest_other n b c d h = record {
    few = omega (arith, h.few);
    none = λ k l m. elim (eq-or-lt_of_le (let o : k ≤ n = omega arith in o)) [
      | inl e ↦ subst (λ x. f x ≢ b) (sym e) d
      | inr o ↦ h.none k l o
    ];
    there = h.there;
  }

  -- a node of the bucket comes
  newest_here : (n b : ℕ) → f n ≡ b → IsNewest f (n + 1) b (n + 1)
  newest_here n b t = record {
    few = omega arith;
    none = λ k l m. absurd (omega arith);
    there = λ k e. let s : n ≡ k = omega arith in ap f (sym s) ∙ t;
  }

  -- one more node, at the head of its chain
  pub linked_more : (heads nexts : List ℕ) (b n : ℕ) → n ≡ length nexts → b ≡ f n → b < length heads → AreLinked f heads nexts → AreLinked f (set heads b (n + 1)) (nexts ++ get_or heads b 0 ∷ [])
  linked_more heads nexts b n e s l h = record { newest = newest; before = before }
    where
      longer : length (nexts ++ get_or heads b 0 ∷ []) ≡ n + 1
      longer = omega (arith, length-append nexts (get_or heads b 0 ∷ []))

      old : (x : ℕ) → x < length heads → IsNewest f n x (get_or heads x 0)
      old x m = subst (λ c. IsNewest f c x (get_or heads x 0)) (sym e) (h.newest x m)

      newest : (x : ℕ) → x < length (set heads b (n + 1)) → IsNewest f (length (nexts ++ get_or heads b 0 ∷ [])) x (get_or (set heads b (n + 1)) x 0)
      newest x m = subst (λ c. IsNewest f c x (get_or (set heads b (n + 1)) x 0)) (sym longer) (elim (same_or_not x b) [
        | inl q ↦ subst (λ y. IsNewest f (n + 1) y (get_or (set heads b (n + 1)) y 0)) (sym q) (subst (IsNewest f (n + 1) b) (sym (get_or-set_same heads b (n + 1) 0 l)) (newest_here n b (sym s)))
        | inr q ↦ subst (IsNewest f (n + 1) x) (sym (get_or-set_other heads b x (n + 1) 0 q)) (newest_other n x _ (λ t. q (sym t ∙ sym s)) (old x (omega (arith, m, length-set heads b (n + 1)))))
      ])

      before : (k : ℕ) → k < length (nexts ++ get_or heads b 0 ∷ []) → IsNewest f k (f k) (get_or (nexts ++ get_or heads b 0 ∷ []) k 0)
      before k m = elim (same_or_not k n) [
        | inl q ↦ subst (λ y. IsNewest f y (f y) (get_or (nexts ++ get_or heads b 0 ∷ []) y 0)) (sym q ∙ refl) (let last : get_or (nexts ++ get_or heads b 0 ∷ []) n 0 ≡ get_or heads b 0 = ap (λ y. get_or (nexts ++ get_or heads b 0 ∷ []) y 0) e ∙ get_or-append_seam nexts (get_or heads b 0) [] 0 in subst (IsNewest f n (f n)) (sym last) (subst (λ y. IsNewest f n y (get_or heads b 0)) s (old b l)))
        | inr q ↦ let o : k < length nexts = omega (arith, longer) in subst (IsNewest f k (f k)) (sym (get_or_append_left nexts (get_or heads b 0 ∷ []) 0 k o)) (h.before k o)
      ]

-- what stands in a list does not depend on what is answered past its end
pub any_default : {X : Type 0} (xs : List X) (i : ℕ) (c d : X) → i < length xs → get_or xs i c ≡ get_or xs i d
any_default [] i c d l = absurd (omega arith)
any_default (x ∷ xs) zero c d l = refl
any_default (x ∷ xs) (suc i) c d l = any_default xs i c d (omega arith)

pub slice_get_below : (nodes : List Entry) (k : ℕ) (e : Entry) → slice_get nodes k ≡ Some e → k < length nodes
slice_get_below [] k e h = absurd (cc)
slice_get_below (x ∷ xs) zero e h = omega arith
slice_get_below (x ∷ xs) (suc k) e h = let l = slice_get_below xs k e h in omega arith

-- a node of another bucket is another node
pub other_bucket : (size : ℕ) (nodes : List Entry) (k : ℕ) (e : Entry) → bucket_at size nodes k ≢ bucket size e → slice_get nodes k ≢ Some e
other_bucket size nodes k e d h = d (ap (bucket size) (get_or_from_slice_get nodes k e no_entry h))

module _ (nodes : List Entry) (heads nexts : List ℕ) (e : Entry) (n : ℕ) (l : n < length nexts) (s : bucket_at (length heads) nodes n ≡ bucket (length heads) e) (h : AreLinked (bucket_at (length heads) nodes) heads nexts) where
  pub looks_below : get_or nexts n 0 ≤ n
  looks_below = (h.before n l).few

  pub looks_there : (k : ℕ) → get_or nexts n 0 ≡ k + 1 → bucket_at (length heads) nodes k ≡ bucket (length heads) e
  looks_there k q = (h.before n l).there k q ∙ s

  pub looks_on : slice_get nodes n ≢ Some e → ((k : ℕ) → n + 1 ≤ k → slice_get nodes k ≢ Some e) → (k : ℕ) → get_or nexts n 0 ≤ k → slice_get nodes k ≢ Some e
  looks_on here past k m g = elim (cases_order k n) [
    | inl q ↦ here (ap (slice_get nodes) (sym q) ∙ g)
    | inr o ↦ elim o [
      | inl lt ↦ other_bucket (length heads) nodes k e (λ t. (h.before n l).none k m lt (t ∙ sym s)) g
      | inr gt ↦ past k (omega arith) g
    ]
  ]

-- chains depend on the buckets of their nodes alone

newest_like : (f g : ℕ → ℕ) (n b c : ℕ) → ((k : ℕ) → k < n → f k ≡ g k) → IsNewest f n b c → IsNewest g n b c
newest_like f g n b c s h = record {
  few = h.few;
  none = λ k l m t. h.none k l m (s k m ∙ t);
  there = λ k e. let few = h.few in let l : k < n = omega arith in sym (s k l) ∙ h.there k e;
}

linked_like : (f g : ℕ → ℕ) (heads nexts : List ℕ) → ((k : ℕ) → k < length nexts → f k ≡ g k) → AreLinked f heads nexts → AreLinked g heads nexts
linked_like f g heads nexts s h = record {
  newest = λ b l. newest_like f g (length nexts) b _ s (h.newest b l);
  before = λ k l. subst (λ x. IsNewest g k x (get_or nexts k 0)) (s k l) (newest_like f g k (f k) _ (λ j m. s j (omega arith)) (h.before k l));
}

-- the chains of nodes, with one more node behind them
pub chained_more : (size : ℕ) (nodes : List Entry) (e : Entry) (heads nexts : List ℕ) → length nexts ≤ length nodes → AreLinked (bucket_at size nodes) heads nexts → AreLinked (bucket_at size (nodes ++ e ∷ [])) heads nexts
chained_more size nodes e heads nexts l h = linked_like (bucket_at size nodes) (bucket_at size (nodes ++ e ∷ [])) heads nexts (λ k m. ap (bucket size) (sym (get_or_append_left nodes (e ∷ []) no_entry k (omega arith)))) h

-- the chains of nodes, without nodes that are in none
pub chained_take : (size : ℕ) (nodes : List Entry) (n : ℕ) (heads nexts : List ℕ) → length nexts ≤ n → AreLinked (bucket_at size nodes) heads nexts → AreLinked (bucket_at size (take n nodes)) heads nexts
chained_take size nodes n heads nexts l h = linked_like (bucket_at size nodes) (bucket_at size (take n nodes)) heads nexts (λ k m. ap (bucket size) (sym (get_or-take n nodes k no_entry (omega arith)))) h
