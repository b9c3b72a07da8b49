-- The keys and calls of a node of a context: those of the calls before it and those of its children.
use Rattle.std.proofs.Common.{◌≡◌, ℕ, suc, ◌+◌, ◌≤◌, ◌==◌, Bool, true, false, cond, List, [], ◌∷◌, Option, Some, refl, sym, ap₂, subst, ◌∙◌, arith}
use Rattle.std.proofs.lemmas.Bool.{and_parts, both_ways}
use Rattle.cv_syntax_trees.specs.declared.head.Head.{Head}
use Rattle.cv_syntax_trees.specs.declared.head.Head.TheVariants.{Call as CallHead, Key, New}
use Rattle.cv_syntax_trees.specs.Tree.{Tree, Empty, Node}
use Rattle.cv_meaning.specs.Interpretation.{Interpretation}
use Rattle.cv_scope_rules.specs.Context.{cell_of, index_terms, replications_below}
use Rattle.cv_scope_rules.specs.Phrases.{Body, Nil, Phrase, Terms, is_oracle_phrase, parts}
use Rattle.cv_scene.specs.Contexts.{after_calls, call_terms, in_context}
use Rattle.cv_scene.specs.Reductions.{Reduction, is_coin, matching}
use Rattle.cv_scene.specs.Sites.{Site}
use Rattle.cv_context_laws.proofs.calls.Found.{children_of}
use Rattle.cv_context_laws.proofs.calls.Games.{no_row}
use Rattle.cv_context_laws.proofs.shape.Terms.{same_parts}
use Rattle.cv_context_files.proofs.counts.Copies.{AreAmongOracles, copies_at, copies_in, plain_none, plain_row, terms_none}

module _ (r : Reduction) (i : Interpretation) (P : Head → Bool) (among : AreAmongOracles P) where
  abbrev copies_of : List (ℕ × ℕ) → Tree → ℕ
  copies_of rs t = copies_in i P rs t

  -- calls before a tree: their terms have none
  abbrev pub calls_worth : List (ℕ × ℕ) → (number : ℕ) → List Site → ℕ
  calls_worth rs j [] = 0
  calls_worth rs j (c ∷ cs) = copies_at i P rs (CallHead (r.answer j) j) + calls_worth rs (suc j) cs

  pub record Behind (σ : Phrase) (rs : List (ℕ × ℕ)) (j : ℕ) (cs : List Site) (t : Tree) : Type 0 where
    pub worth : copies_of rs (after_calls r.answer j cs t) ≡ calls_worth rs j cs + copies_of rs t
    pub phrase : is_oracle_phrase σ t ≡ true

  call_children : (σ : Phrase) (x l : ℕ) (a b : Tree) → is_oracle_phrase σ (Node (CallHead x l) a b) ≡ true → (is_oracle_phrase Terms a ≡ true) × (is_oracle_phrase σ b ≡ true)
  unfolding is_oracle_phrase
  call_children Body x l a b e = and_parts (is_oracle_phrase Terms a) _ e
  call_children σ x l a b e = absurd (both_ways _ refl e)

  pub behind : (σ : Phrase) (rs : List (ℕ × ℕ)) (cs : List Site) (j : ℕ) (t : Tree) → is_oracle_phrase σ (after_calls r.answer j cs t) ≡ true → Behind σ rs j cs t
  behind σ rs [] j t e = let z : copies_of rs t ≡ 0 + copies_of rs t = omega arith in record { worth = z; phrase = e }
  behind σ rs (c ∷ cs) j t e =
      let k = call_children σ (r.answer j) j (call_terms c.call.instance) (after_calls r.answer (suc j) cs t) e in
      let more = behind σ rs cs (suc j) t k.1 in
      let none = terms_none i P among (call_terms c.call.instance) Terms rs refl k.0 in
      let here : ℕ = copies_at i P rs (CallHead (r.answer j) j) in
      let all = more.worth in
      record { worth = ap₂ (λ m n. here + (m + n)) none all ∙ (let z : here + (0 + (calls_worth rs (suc j) cs + copies_of rs t)) ≡ here + calls_worth rs (suc j) cs + copies_of rs t = omega arith in z); phrase = more.phrase }

  -- a cell has none

  index_none : (rs qs : List (ℕ × ℕ)) → copies_of rs (index_terms qs) ≡ 0
  index_none rs [] = refl
  index_none rs (q ∷ qs) = ap₂ ◌+◌ (plain_none i P among rs _ refl) (ap₂ ◌+◌ (ap₂ ◌+◌ (plain_none i P among rs _ refl) refl) (index_none rs qs))

  pub cell_none : (rs qs : List (ℕ × ℕ)) (x : ℕ) → copies_of rs (cell_of qs x) ≡ 0
  cell_none rs [] x = ap₂ ◌+◌ (plain_none i P among rs _ refl) refl
  cell_none rs (q ∷ qs) x = ap₂ ◌+◌ (plain_none i P among rs _ refl) (ap₂ ◌+◌ (index_none rs (q ∷ qs)) refl)

  -- a node with its children in the context, where the node itself is worth so much if it becomes a key

  abbrev pub key_worth : List (ℕ × ℕ) → Head → ℕ
  key_worth rs (New x T) = cond (x == r.key) (copies_at i P rs (Key x)) 0
  key_worth rs h = 0

  pub inner : (h : Head) (σ τ ρ : Phrase) (rs : List (ℕ × ℕ)) (A B : Tree) (m n : ℕ) → parts σ h ≡ Some (τ, ρ) → is_oracle_phrase σ (in_context (matching r) (is_coin r) h A B) ≡ true
      → (is_oracle_phrase τ A ≡ true → copies_of rs A ≤ m) → (is_oracle_phrase ρ B ≡ true → copies_of (replications_below h rs) B ≤ n)
      → copies_of rs (in_context (matching r) (is_coin r) h A B) ≤ key_worth rs h + (m + n)
  unfolding is_oracle_phrase
  inner (New x T) Body τ ρ rs A B m n e f p q = go (x == r.key) (is_coin r x) f
    where
      row : ◌≡◌ {A = Phrase × Phrase} (Nil, Body) (τ, ρ)
      row = cc

      second : is_oracle_phrase Body B ≡ true → copies_of rs B ≤ n
      second k = q (subst (λ (u : Phrase × Phrase). is_oracle_phrase u.1 B ≡ true) row k)

      go : (b c : Bool) → is_oracle_phrase Body (cond b (Node (Key x) Empty B) (cond c B (Node (New x T) A B))) ≡ true
          → copies_of rs (cond b (Node (Key x) Empty B) (cond c B (Node (New x T) A B))) ≤ cond b (copies_at i P rs (Key x)) 0 + (m + n)
      go true c k =
          let z = second (and_parts (is_oracle_phrase Nil Empty) _ k).1 in
          let w : copies_at i P rs (Key x) + (0 + copies_of rs B) ≤ copies_at i P rs (Key x) + (m + n) = omega (arith, z) in w
      go false true k = let z = second k in let w : copies_of rs B ≤ 0 + (m + n) = omega (arith, z) in w
      go false false k =
          let c = and_parts (is_oracle_phrase Nil A) _ k in
          let y = p (subst (λ (u : Phrase × Phrase). is_oracle_phrase u.0 A ≡ true) row c.0) in
          let z = second c.1 in
          let none = plain_none i P among rs (New x T) refl in
          let w : copies_at i P rs (New x T) + (copies_of rs A + copies_of rs B) ≤ 0 + (m + n) = omega (arith, none, y, z) in w
  inner (New x T) σ τ ρ rs A B m n e f p q = no_row (τ, ρ) e
  inner h σ τ ρ rs A B m n e f p q = plain h σ τ ρ rs A B m n e f p q
    where
      plain : (h : Head) (σ τ ρ : Phrase) (rs : List (ℕ × ℕ)) (A B : Tree) (m n : ℕ) → parts σ h ≡ Some (τ, ρ) → is_oracle_phrase σ (Node h A B) ≡ true
          → (is_oracle_phrase τ A ≡ true → copies_of rs A ≤ m) → (is_oracle_phrase ρ B ≡ true → copies_of (replications_below h rs) B ≤ n)
          → copies_of rs (Node h A B) ≤ 0 + (m + n)
      plain h σ τ ρ rs A B m n e f p q =
          let c = children_of σ h A B f in
          let row : ◌≡◌ {A = Phrase × Phrase} (c.first, c.second) (τ, ρ) = rows (c.first, c.second) (τ, ρ) (sym c.row ∙ same_parts σ h (τ, ρ) e) in
          let y = p (subst (λ (u : Phrase × Phrase). is_oracle_phrase u.0 A ≡ true) row c.in_first) in
          let z = q (subst (λ (u : Phrase × Phrase). is_oracle_phrase u.1 B ≡ true) row c.in_second) in
          let none = plain_none i P among rs h (plain_row σ h (τ, ρ) e) in
          let w : copies_at i P rs h + (copies_of rs A + copies_of (replications_below h rs) B) ≤ 0 + (m + n) = omega (arith, none, y, z) in w
        where
          rows : (u v : Phrase × Phrase) → ◌≡◌ {A = Option (Phrase × Phrase)} (Some u) (Some v) → u ≡ v
          rows u v e = cc
