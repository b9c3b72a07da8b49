-- In the branches of a visited `find`: at the places of their conditions, and at those of their bodies.
use Rattle.std.proofs.Common.{◌≡◌, ℕ, ◌+◌, ◌<◌, Bool, true, false, ◌&&◌, not, nat_lt, List, ◌++◌, None, refl, ap, subst, le-ltb, arith}
use Rattle.std.proofs.lemmas.Bool.{both_ways, and_from, and_parts}
use Rattle.cv_syntax_trees.specs.declared.head.Head.{Head}
use Rattle.cv_syntax_trees.specs.declared.head.Head.TheVariants.{Yield, Out, Event, New, Let, If, Find, Branch, Cons, Key, Call}
use Rattle.cv_syntax_trees.specs.Head.{weight}
use Rattle.cv_syntax_trees.specs.Tree.{Tree, Empty, Node, first, second, first_place, second_place, size}
use Rattle.cv_meaning.specs.Memory.{Indices, Store, tuple}
use Rattle.cv_scope_rules.specs.Made.{is_bound}
use Rattle.cv_scope_rules.specs.Phrases.{Phrase, Body, Branches, Arm, Guards, Guarded, Binders, Cells, Term, is_oracle_phrase}
use Rattle.cv_scope_runs.proofs.Games.{phrase_parts}
use Rattle.cv_scene.specs.Late.{is_late}
use Rattle.cv_derive_laws.proofs.late.Looking.{behind_late, within_late}

-- in the grammar

pub find_phrase : (σ : Phrase) (l : ℕ) (a b : Tree) → is_oracle_phrase σ (Node (Find l) a b) ≡ true → is_oracle_phrase Branches a ≡ true
unfolding is_oracle_phrase
find_phrase Body l a b f = (phrase_parts Body Branches Body (Find l) a b refl f).0
find_phrase σ l a b f = absurd (both_ways false refl f)

pub branch_phrase : (us rest more : Tree) → is_oracle_phrase Branches (Node Cons (Node Branch us rest) more) ≡ true → is_oracle_phrase Guards rest ≡ true
branch_phrase us rest more f = (phrase_parts Arm Binders Guards Branch us rest refl (phrase_parts Branches Arm Branches Cons (Node Branch us rest) more refl f).0).1

pub more_phrase : (branch more : Tree) → is_oracle_phrase Branches (Node Cons branch more) ≡ true → is_oracle_phrase Branches more ≡ true
more_phrase branch more f = (phrase_parts Branches Arm Branches Cons branch more refl f).1

-- a body has a place
body_size : (body : Tree) → is_oracle_phrase Body body ≡ true → 0 < size body
unfolding size is_oracle_phrase
body_size Empty f = absurd (both_ways false refl f)
body_size (Node Yield a b) f = omega arith
body_size (Node (Out c) a b) f = omega arith
body_size (Node (Event e) a b) f = omega arith
body_size (Node (New x T) a b) f = omega arith
body_size (Node (Let x T) a b) f = omega arith
body_size (Node If a b) f = omega arith
body_size (Node (Find l) a b) f = omega arith
body_size (Node (Key x) a b) f = omega arith
body_size (Node (Call x l) a b) f = omega arith
body_size (Node h a b) f = absurd (both_ways false refl f)

-- a list, a condition and a body
data GuardsShape : Tree → Type 0 where
  shape : (cells c body : Tree) → GuardsShape (Node Cons cells (Node Cons c body))

guards_shape : (rest : Tree) → is_oracle_phrase Guards rest ≡ true → GuardsShape rest
unfolding is_oracle_phrase
guards_shape Empty f = absurd (both_ways false refl f)
guards_shape (Node Cons cells Empty) f = absurd (both_ways false refl (and_parts (is_oracle_phrase Cells cells) _ f).1)
guards_shape (Node Cons cells (Node Cons c body)) f = shape cells c body
guards_shape (Node Cons cells (Node h c body)) f = absurd (both_ways false refl (and_parts (is_oracle_phrase Cells cells) _ f).1)
guards_shape (Node h cells rest) f = absurd (both_ways false refl f)

module _ (game : Tree) (at : Indices) (m : Store) where
  -- a variable that comes later than a place of this tree, which stands at p, does so in the tree, and is assigned at no outer part of the copy
  abbrev pub AreLate : ℕ → Tree → Type 0
  AreLate p t = (x r : ℕ) → r < size t → is_late x game (p + r) ≡ true → (is_late x t r ≡ true) × ((u more : List ℕ) → u ++ more ≡ tuple at → m x u ≡ None)

  pub first_late : (p : ℕ) (h : Head) (a b : Tree) → AreLate p (Node h a b) → AreLate (first_place p h) a
  unfolding size
  first_late p h a b k x r l e =
      let q = k x (weight h + r) (omega arith) (subst (λ n. is_late x game n ≡ true) (let i : p + weight h + r ≡ p + (weight h + r) = omega arith in i) e) in
      ((within_late x h a b r l q.0).1, q.1)

  pub second_late : (p : ℕ) (h : Head) (a b : Tree) → AreLate p (Node h a b) → AreLate (second_place p h a) b
  unfolding size
  second_late p h a b k x r l e =
      let q = k x (weight h + size a + r) (omega arith) (subst (λ n. is_late x game n ≡ true) (let i : p + weight h + size a + r ≡ p + (weight h + size a + r) = omega arith in i) e) in
      ((behind_late x h a b r q.0).late, q.1)

  -- at a place of the condition
  pub condition_late : (p : ℕ) (us rest : Tree) (k : ℕ) → k < size (first (second rest)) → AreLate p (Node Branch us rest) → (x : ℕ) → is_late x game (second_place p Branch us + size (first rest) + k) ≡ true → (u more : List ℕ) → u ++ more ≡ tuple at → m x u ≡ None
  unfolding size
  condition_late p us Empty k l f x e = absurd (omega arith)
  condition_late p us (Node h cells Empty) k l f x e = absurd (omega arith)
  condition_late p us (Node h cells (Node j c body)) k l f x e =
      let s = second_late p Branch us (Node h cells (Node j c body)) f in
      (s x (size cells + k) (let i : k < size c = l in omega arith) (subst (λ n. is_late x game n ≡ true) (let i : second_place p Branch us + size cells + k ≡ second_place p Branch us + (size cells + k) = omega arith in i) e)).1

  -- at that of the body no index variable of the branch comes later
  pub record BodyLate (us : Tree) (x : ℕ) : Type 0 where
    pub free : is_bound us x ≡ false
    pub unassigned : (u more : List ℕ) → u ++ more ≡ tuple at → m x u ≡ None

  shaped_late : (p : ℕ) (us rest : Tree) → GuardsShape rest → is_oracle_phrase Guards rest ≡ true → AreLate p (Node Branch us rest) → (x : ℕ) → is_late x game (second_place p Branch us + size (first rest) + size (first (second rest))) ≡ true → BodyLate us x
  unfolding size
  shaped_late p us _ (shape cells c body) f k x e =
      let g = (phrase_parts Guards Cells Guarded Cons cells (Node Cons c body) refl f).1 in
      let d : 0 < size body = body_size body (phrase_parts Guarded Term Body Cons c body refl g).1 in
      let r : ℕ = size cells + size c in
      let q = k x (weight Branch + size us + r) (omega arith) (subst (λ n. is_late x game n ≡ true) (let i : p + weight Branch + size us + size cells + size c ≡ p + (weight Branch + size us + (size cells + size c)) = omega arith in i) e) in
      let b = behind_late x Branch us (Node Cons cells (Node Cons c body)) r q.0 in
      record { free = not_bound (is_bound us x) refl (le-ltb r r (omega arith)) b.above; unassigned = q.1 }
    where
      not_bound : (o : Bool) → is_bound us x ≡ o → nat_lt (size cells + size c) (size cells + size c) ≡ false → (is_bound us x && not (nat_lt (size cells + size c) (size cells + size c))) ≡ false → is_bound us x ≡ false
      not_bound true i j z = absurd (both_ways _ z (and_from (is_bound us x) _ i (ap not j)))
      not_bound false i j z = i

  pub body_late : (p : ℕ) (us rest : Tree) → is_oracle_phrase Guards rest ≡ true → AreLate p (Node Branch us rest) → (x : ℕ) → is_late x game (second_place p Branch us + size (first rest) + size (first (second rest))) ≡ true → BodyLate us x
  body_late p us rest f k x e = shaped_late p us rest (guards_shape rest f) f k x e
