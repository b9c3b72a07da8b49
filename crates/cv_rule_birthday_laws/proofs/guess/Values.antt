-- Terms have the values that they have with `false` for guesses, where no guess is right.
use Rattle.std.proofs.Common.{◌≡◌, ℕ, ◌==◌, ◌&&◌, ◌||◌, not, Bool, true, false, cond, List, [], ◌∷◌, ◌⊎◌, inl, inr, Option, Some, None, is_some, refl, sym, ap, ap₂, subst, ◌∙◌, eqb-true, eq-eqb}
use Rattle.std.proofs.lemmas.Bool.{both_ways, and_parts}
use Rattle.std.specs.List.{AllByRecursion}
use Rattle.cv_syntax_trees.specs.declared.head.Head.{Head}
use Rattle.cv_syntax_trees.specs.declared.head.Head.TheVariants.{Leaf, Read, Apply, Eq, And, Or, Not, Yes, No, Cons}
use Rattle.cv_syntax.specs.Layouts.{IsSyntax}
use Rattle.cv_syntax_trees.specs.Tree.{Tree, Empty, Node, second, first_place, second_place}
use Rattle.cv_scene.specs.lines.Truths.{no}
use Rattle.cv_meaning.specs.Binders.{fits, bound_to}
use Rattle.cv_meaning.specs.Candidates.{is_assigned}
use Rattle.cv_meaning.specs.Interpretation.{Setting}
use Rattle.cv_meaning.specs.Memory.{Indices, Store, tuple}
use Rattle.cv_meaning.specs.Serving.{Visit}
use Rattle.cv_meaning.specs.Terms.{bit, found_in, is_one, leaf_value_from, or_zero, value, values}
use Rattle.cv_scope_rules.specs.Context.{Context}
use Rattle.cv_scope_rules.specs.Phrases.{Phrase, Nil, Message, Indices as Names, Terms, Term, is_phrase}
use Rattle.cv_scope_rules.specs.Rules.{IsAmong, Names as GameNames, ReadsInReach, is_index}
use Rattle.cv_scope_runs.specs.Promises.{AreIndicesOf}
use Rattle.cv_scope_runs.proofs.Asked.{Asked}
use Rattle.cv_scope_runs.proofs.Rows.{position_of}
use Rattle.cv_scene.specs.Scenes.{head_reads}
use Rattle.cv_syntax_trees.proofs.lists.Tests.{equals_comm}
use Rattle.cv_syntax_trees.proofs.lists.Each.{AllByRecursion_left, AllByRecursion_right}
use Rattle.cv_rule_birthday.specs.guess.Guessing.{Places, falsified, reads}
use Rattle.cv_rule_birthday_laws.specs.guess.Spots.{Misses, Spot, spot_of, spots, tuple_of}
use Rattle.cv_rule_birthday_laws.proofs.guess.Falsified.{kept_bare, kept_read}

-- at a visit of the guess's construct, which has a place, at each tuple of the branch's indices, the guess is wrong
abbrev pub IsWrong : Setting → (x : ℕ) → Visit → Spot → Type 0
IsWrong g x v s =
    IsSyntax v.tree → s.place ≡ v.place → AreIndicesOf g v.before.indices s.replications → (u : List ℕ) → fits g.interpretation.parameter_value s.binders u ≡ true
    → Misses g x v.before.indices (bound_to v.before.memory.store (tuple v.before.indices) s.binders u) s.side s.other

-- a read of the variable has the value of an assigned cell
pub record ReadsCell (g : Setting) (x : ℕ) (at : Indices) (n : Store) (t : Tree) : Type 0 where
  pub cell : ℕ
  pub assigned : n x (tuple_of g at n t) ≡ Some cell
  pub value : value g at n t ≡ cell

-- what is known where the terms stand: cells of the context are assigned, and the variable is neither a constant, nor an index, nor one
-- of the branch
pub record IsKnown (g : Setting) (x : ℕ) (at : Indices) (n : Store) (Γ : Context) : Type 0 where
  pub cells : AllByRecursion (λ c. is_assigned g at n n c ≡ true) Γ.cells
  pub own : AllByRecursion (λ c. reads x c ≡ false) Γ.own
  pub outside : is_index Γ.replications x ≡ false
  pub no_index : found_in at x ≡ None
  pub no_constant : g.is_constant x ≡ false

-- the values of a term, of terms, and of those of an output
abbrev pub Kept : Setting → Indices → Store → Phrase → Tree → Tree → Type 0
Kept g at n Term t u = value g at n t ≡ value g at n u
Kept g at n Terms t u = values g at n t ≡ values g at n u
Kept g at n Message t u = values g at n (second t) ≡ values g at n (second u)
Kept g at n σ t u = Unit {0}

module _ (g : Setting) (x : ℕ) (names : GameNames) (same : names.constant ≡ g.is_constant) (at : Indices) (n : Store) (Γ : Context) (k : IsKnown g x at n Γ) where
  some_cell : (o : Option ℕ) → is_some o ≡ true → (v : ℕ) × (o ≡ Some v)
  some_cell None e = absurd (both_ways false refl e)
  some_cell (Some v) e = (v, refl)

  among : (P : Tree → Type 0) (t : Tree) (cs : List Tree) → IsAmong t cs → AllByRecursion P cs → P t
  among P t [] i h = absurd i
  among P t (c ∷ cs) (inl e) h = subst P (sym e) h.0
  among P t (c ∷ cs) (inr i) h = among P t cs i h.1

  -- a cell in reach is assigned
  reached : (t : Tree) → reads x t ≡ true → (IsAmong t Γ.cells) ⊎ (IsAmong t Γ.own) → is_assigned g at n n t ≡ true
  reached t e (inl i) = among (λ c. is_assigned g at n n c ≡ true) t Γ.cells i k.cells
  reached t e (inr i) = absurd (both_ways (reads x t) (among (λ c. reads x c ≡ false) t Γ.own i k.own) e)

  pub reads_cell : (h : Head) (a b : Tree) → head_reads x h ≡ true → ReadsInReach names Γ h a b → ReadsCell g x at n (Node h a b)
  unfolding value
  reads_cell (Leaf y) a b e r = subst (λ z. ReadsInReach names Γ (Leaf z) a b → ReadsCell g x at n (Node (Leaf z) a b)) (sym (eqb-true y x e)) leaf r
    where
      leaf : ReadsInReach names Γ (Leaf x) a b → ReadsCell g x at n (Node (Leaf x) a b)
      leaf (inl i) = absurd (both_ways _ k.outside i)
      leaf (inr (inl i)) = absurd (both_ways _ k.no_constant (ap (λ (f : ℕ → Bool). f x) (sym same) ∙ i))
      leaf (inr (inr i)) =
          let c = some_cell (n x []) (reached (Node (Leaf x) a b) (eq-eqb x x refl) i) in
          record { cell = c.0; assigned = c.1; value = ap (leaf_value_from g n x) k.no_index ∙ ap (λ d. cond d (g.interpretation.table x []) (or_zero (n x []))) k.no_constant ∙ ap or_zero c.1 }
  reads_cell (Read y) a b e r = subst (λ z. ReadsInReach names Γ (Read z) a b → ReadsCell g x at n (Node (Read z) a b)) (sym (eqb-true y x e)) read r
    where
      read : ReadsInReach names Γ (Read x) a b → ReadsCell g x at n (Node (Read x) a b)
      read i = let c = some_cell (n x (values g at n a)) (reached (Node (Read x) a b) (eq-eqb x x refl) i) in record { cell = c.0; assigned = c.1; value = ap or_zero c.1 }
  reads_cell h a b e r = absurd (both_ways false refl e)

  -- so has a term that reads it, of which array scope is asked
  term_reads : (t : Tree) → reads x t ≡ true → Asked names (position_of Term) Γ t → ReadsCell g x at n t
  term_reads Empty e s = absurd (both_ways false refl e)
  term_reads (Node h a b) e s = reads_cell h a b e s.0.scope

  module _ (ps : Places) (v : Visit) (c : ℕ) (rs : List (ℕ × ℕ)) (us : Tree) (wrong : (s : Spot) → s.place ≡ c → s.replications ≡ rs → s.binders ≡ us → IsWrong g x v s → Misses g x at n s.side s.other) where
    abbrev AllWrong : List Spot → Type 0
    AllWrong ss = AllByRecursion (IsWrong g x v) ss

    -- one side reads the variable, and the guess is wrong
    different : (o : ℕ) (a b : Tree) (p r : ℕ) → (reads x a || reads x b) ≡ true → Asked names (position_of Term) Γ a → Asked names (position_of Term) Γ b
        → IsWrong g x v (spot_of x o c rs us a b (falsified x ps Term p a) (falsified x ps Term r b))
        → (value g at n (falsified x ps Term p a) == value g at n (falsified x ps Term r b)) ≡ false
    different o a b p r e s z w = go (reads x a) refl e (wrong (spot_of x o c rs us a b (falsified x ps Term p a) (falsified x ps Term r b)) refl refl refl w)
      where
        go : (d : Bool) → reads x a ≡ d → (d || reads x b) ≡ true
            → Misses g x at n (cond d (falsified x ps Term p a) (falsified x ps Term r b)) (cond d (falsified x ps Term r b) (falsified x ps Term p a))
            → (value g at n (falsified x ps Term p a) == value g at n (falsified x ps Term r b)) ≡ false
        go true f e m =
            let same_side : falsified x ps Term p a ≡ a = kept_read x ps a p f in
            let l : ReadsCell g x at n (falsified x ps Term p a) = subst (ReadsCell g x at n) (sym same_side) (term_reads a f s) in
            ap (λ w. w == value g at n (falsified x ps Term r b)) l.value ∙ m l.cell l.assigned
        go false f e m =
            let same_side : falsified x ps Term r b ≡ b = kept_read x ps b r e in
            let l : ReadsCell g x at n (falsified x ps Term r b) = subst (ReadsCell g x at n) (sym same_side) (term_reads b e z) in
            ap (λ w. value g at n (falsified x ps Term p a) == w) l.value ∙ (equals_comm (value g at n (falsified x ps Term p a)) l.cell ∙ m l.cell l.assigned)

    pub kept : (σ : Phrase) (t : Tree) (p q : ℕ) → is_phrase σ t ≡ true → Asked names (position_of σ) Γ t → AllWrong (spots x ps σ p q c rs us t) → Kept g at n σ (falsified x ps σ p t) t
    unfolding is_phrase falsified spots value values
    kept Term (Node (Leaf y) a b) p q w s z = refl
    kept Term (Node (Read y) a b) p q w s z = ap (λ t. or_zero (n y (values g at n t))) (kept_bare x ps Nil a _ refl)
    kept Term (Node (Apply f) a b) p q w s z =
        ap (g.interpretation.table f) (kept Terms a _ (first_place q (Apply f)) (and_parts (is_phrase Terms a) _ w).0 s.1 (AllByRecursion_left (IsWrong g x v) _ _ z))
    kept Term (Node Eq a b) p q w s z =
        let r = and_parts (is_phrase Term a) _ w in
        let parts = AllByRecursion_right (IsWrong g x v) (cond (ps p && (reads x a || reads x b)) (here ∷ []) []) _ z in
        let one : value g at n left ≡ value g at n a = kept Term a (first_place p Eq) (first_place q Eq) r.0 s.1 (AllByRecursion_left (IsWrong g x v) _ _ parts) in
        let two : value g at n right ≡ value g at n b = kept Term b (second_place p Eq a) (second_place q Eq left) r.1 s.2 (AllByRecursion_right (IsWrong g x v) (spots x ps Term (first_place p Eq) (first_place q Eq) c rs us a) _ parts) in
        go (ps p && (reads x a || reads x b)) refl (AllByRecursion_left (IsWrong g x v) _ _ z) ∙ ap₂ (λ l m. bit (l == m)) one two
      where
        left : Tree
        left = falsified x ps Term (first_place p Eq) a

        right : Tree
        right = falsified x ps Term (second_place p Eq a) b

        here : Spot
        here = spot_of x p c rs us a b left right

        go : (d : Bool) → (ps p && (reads x a || reads x b)) ≡ d → AllWrong (cond d (here ∷ []) []) → value g at n (cond d no (Node Eq left right)) ≡ bit (value g at n left == value g at n right)
        go true e h = ap bit (sym (different p a b (first_place p Eq) (second_place p Eq a) (and_parts (ps p) _ e).1 s.1 s.2 h.0))
        go false e h = refl
    kept Term (Node And a b) p q w s z =
        let r = and_parts (is_phrase Term a) _ w in
        ap₂ (λ l m. bit (is_one l && is_one m)) (kept Term a _ (first_place q And) r.0 s.1 (AllByRecursion_left (IsWrong g x v) _ _ z)) (kept Term b _ _ r.1 s.2 (AllByRecursion_right (IsWrong g x v) (spots x ps Term (first_place p And) (first_place q And) c rs us a) _ z))
    kept Term (Node Or a b) p q w s z =
        let r = and_parts (is_phrase Term a) _ w in
        ap₂ (λ l m. bit (is_one l || is_one m)) (kept Term a _ (first_place q Or) r.0 s.1 (AllByRecursion_left (IsWrong g x v) _ _ z)) (kept Term b _ _ r.1 s.2 (AllByRecursion_right (IsWrong g x v) (spots x ps Term (first_place p Or) (first_place q Or) c rs us a) _ z))
    kept Term (Node Not a b) p q w s z = ap (λ l. bit (not (is_one l))) (kept Term a _ (first_place q Not) (and_parts (is_phrase Term a) _ w).0 s.1 (AllByRecursion_left (IsWrong g x v) _ _ z))
    kept Term (Node Yes a b) p q w s z = refl
    kept Term (Node No a b) p q w s z = refl
    kept Term t p q w s z = absurd (both_ways false refl w)
    kept Terms Empty p q w s z = refl
    kept Terms (Node Cons a b) p q w s z =
        let r = and_parts (is_phrase Term a) _ w in
        ap₂ ◌∷◌ (kept Term a _ (first_place q Cons) r.0 s.1 (AllByRecursion_left (IsWrong g x v) _ _ z)) (kept Terms b _ _ r.1 s.2 (AllByRecursion_right (IsWrong g x v) (spots x ps Term (first_place p Cons) (first_place q Cons) c rs us a) _ z))
    kept Terms t p q w s z = absurd (both_ways false refl w)
    kept Message (Node Cons a b) p q w s z = kept Terms b _ _ (and_parts (is_phrase Names a) _ w).1 s.2 (AllByRecursion_right (IsWrong g x v) (spots x ps Names (first_place p Cons) (first_place q Cons) c rs us a) _ z)
    kept Message t p q w s z = absurd (both_ways false refl w)
    kept σ t p q w s z = tt
