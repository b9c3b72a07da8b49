-- The next game reads no value of the variable, nor do the sides of guesses, and `new` alone defines it.
use Rattle.std.proofs.Common.{◌≡◌, ℕ, ◌==◌, ◌&&◌, ◌||◌, not, Bool, true, false, cond, List, [], ◌∷◌, Some, None, refl, sym, ap, ap₂, subst, ◌∙◌}
use Rattle.std.proofs.lemmas.Bool.{both_ways, and_parts}
use Rattle.std.specs.List.{AllByRecursion, list_any}
use Rattle.cv_syntax_trees.specs.lists.Options.{first_of}
use Rattle.cv_syntax_trees.specs.declared.head.Head.{Head}
use Rattle.cv_syntax_trees.specs.declared.head.Head.TheVariants.{In, New, Branch, Leaf, Read, Apply, Eq, And, Or, Not, Yes, No, Cons, Key, Call}
use Rattle.cv_syntax_trees.specs.Tree.{Tree, Empty, Node, first, second, first_place, second_place, head_reads_only, reads_only}
use Rattle.cv_scene.specs.lines.Truths.{no}
use Rattle.cv_meaning_chances.specs.unread.Dropping.{reads_none}
use Rattle.cv_scope_rules.specs.Context.{first_position, replications_below, second_position}
use Rattle.cv_scope_rules.specs.Made.{is_bound, made_by}
use Rattle.cv_scope_rules.specs.Phrases.{Phrase, Nil, Inputs, Body, Arm, Guarded, OneCell, Terms, Term, is_phrase, oracle_parts, parts}
use Rattle.cv_scope_rules.specs.Sites.{Variable}
use Rattle.cv_scope_rules.specs.declared.position.Position.{Position}
use Rattle.cv_scope_runs.proofs.Rows.{placed, position_of}
use Rattle.cv_scene.specs.Scenes.{head_reads, is_new_head}
use Rattle.cv_query_certificates.specs.Secrets.{AreUnreadChoices, first_definition_but, first_other_read, is_cell, is_choice, is_let_of, reads_value}
use Rattle.cv_costs.specs.quiet.Quiet.{only}
use Rattle.cv_steps.specs.Rewriting.{by_parts, is_term, parts_of}
use Rattle.cv_steps.proofs.Flat.{open_phrase}
use Rattle.cv_steps.proofs.Places.{bare_is_no_term, is_bare, parts_bare}
use Rattle.cv_syntax_trees.proofs.lists.Each.{AllByRecursion_append}
use Rattle.cv_syntax_trees.proofs.lists.Tests.{and_false, and_true}
use Rattle.cv_costs.proofs.quiet.Shapes.{left_false}
use Rattle.cv_scene.specs.Large.{chooses, first_other_site}
use Rattle.cv_rule_birthday.specs.guess.Guessing.{Places, falsified, first_read, has_value, is_equality, is_guess, reads}
use Rattle.cv_rule_birthday_laws.specs.guess.Spots.{Spot, binders_below, construct_below, spot_of, spots, spots_of}
use Rattle.cv_rule_birthday_laws.proofs.guess.Falsified.{kept_bare, kept_read, nothing_first}

-- parts of phrases

nil_parts : (h : Head) → parts_of Nil h ≡ (Nil, Nil)
nil_parts (Read y) = refl
nil_parts h = refl

abbrev pub is_read : Head → Bool
is_read (Read y) = true
is_read h = false

pub parts_are : (σ : Phrase) (h : Head) (q : Phrase × Phrase) → is_read h ≡ false → parts σ h ≡ Some q → parts_of σ h ≡ q
parts_are σ (Read y) q n e = absurd (both_ways true n refl)
parts_are σ h q n e = ap (by_parts h) e

read_parts : (σ : Phrase) (y : ℕ) → parts_of σ (Read y) ≡ (Nil, Nil)
read_parts σ y = refl

oracle_of : (σ : Phrase) (h : Head) (q : Phrase × Phrase) → parts σ h ≡ Some q → oracle_parts σ h ≡ Some q
oracle_of Body (Key y) q e = absurd (cc)
oracle_of Body (Call y l) q e = absurd (cc)
oracle_of Body h q e = e
oracle_of σ h q e = e

pub term_is : (σ : Phrase) → is_term σ ≡ true → σ ≡ Term
term_is Term e = refl
term_is σ e = absurd (both_ways false refl e)

pub equality_is : (h : Head) → is_equality h ≡ true → h ≡ Eq
equality_is Eq e = refl
equality_is h e = absurd (both_ways false refl e)

pub bare_pattern : (σ : Phrase) (c : ℕ) → is_bare (parts_of σ (In c)).0 ≡ true
bare_pattern Inputs c = refl
bare_pattern σ c = refl

pub bare_binders : (σ : Phrase) → is_bare (parts_of σ Branch).0 ≡ true
bare_binders Arm = refl
bare_binders σ = refl

-- what a guess reads: no value of the variable, but for its own side; and the branch in whose condition it stands doesn't bind that
pub record IsUnread (x : ℕ) (s : Spot) : Type 0 where
  pub side : reads_none (only x).unread (first s.side) ≡ true
  pub other : reads_none (only x).unread s.other ≡ true
  pub binders : is_bound s.binders x ≡ false

module _ (x : ℕ) (ps : Places) (types : ℕ → Bool) where
  abbrev False : Phrase → ℕ → Tree → Tree
  False = falsified x ps

  abbrev xs : ℕ → Bool
  xs = (only x).unread

  -- definitions

  chooses_new : (h : Head) → chooses types h ≡ true → is_new_head h ≡ true
  chooses_new (New y T) e = refl
  chooses_new h e = absurd (both_ways false refl e)

  made_same : (σ : Phrase) (h : Head) (a : Tree) (p : ℕ) → made_by h (False (parts_of σ h).0 p a) (Variable x) ≡ made_by h a (Variable x)
  made_same σ (In c) a p = ap (λ t. is_bound (second t) x) (kept_bare x ps (parts_of σ (In c)).0 a p (bare_pattern σ c))
  made_same σ Branch a p = ap (λ t. is_bound t x) (kept_bare x ps (parts_of σ Branch).0 a p (bare_binders σ))
  made_same σ h a p = refl

  chosen_here : (σ : Phrase) (h : Head) (a : Tree) (p : ℕ) → (made_by h a (Variable x) && not (chooses types h)) ≡ false → (made_by h (False (parts_of σ h).0 p a) (Variable x) && not (is_new_head h)) ≡ false
  chosen_here σ h a p e = go (chooses types h) refl e
    where
      go : (c : Bool) → chooses types h ≡ c → (made_by h a (Variable x) && not c) ≡ false → (made_by h (False (parts_of σ h).0 p a) (Variable x) && not (is_new_head h)) ≡ false
      go true k f = ap (λ b. made_by h (False (parts_of σ h).0 p a) (Variable x) && not b) (chooses_new h k) ∙ and_false (made_by h (False (parts_of σ h).0 p a) (Variable x))
      go false k f = ap (λ b. b && not (is_new_head h)) (made_same σ h a p ∙ (sym (and_true (made_by h a (Variable x))) ∙ f))

  definitions_kept : (σ : Phrase) (t : Tree) (p q : ℕ) → first_other_site types x p t ≡ None → first_definition_but is_choice x q (False σ p t) ≡ None
  unfolding falsified first_other_site first_definition_but
  definitions_kept σ Empty p q e = refl
  definitions_kept σ (Node h a b) p q e =
      let k = nothing_first (made_by h a (Variable x) && not (chooses types h)) p (first_other_site types x (first_place p h) a) (first_other_site types x (second_place p h a) b) e in
      go (is_guess x ps σ p h a b) (chosen_here σ h a (first_place p h) k.0) (definitions_kept (parts_of σ h).0 a (first_place p h) (first_place q h) k.1)
      (definitions_kept (parts_of σ h).1 b (second_place p h a) (second_place q h (False (parts_of σ h).0 (first_place p h) a)) k.2)
    where
      l : Tree
      l = False (parts_of σ h).0 (first_place p h) a

      r : Tree
      r = False (parts_of σ h).1 (second_place p h a) b

      go : (d : Bool) → (made_by h l (Variable x) && not (is_new_head h)) ≡ false → first_definition_but is_choice x (first_place q h) l ≡ None → first_definition_but is_choice x (second_place q h l) r ≡ None
          → first_definition_but is_choice x q (cond d no (Node h l r)) ≡ None
      go true f i j = refl
      go false f i j = λ k. cond (f k) (Some q) (first_of (i k) (j k))

  -- reads

  unread_node : (free : Bool) (w : Position) (h : Head) → (not (is_cell w) && head_reads x h) ≡ false → (not free && list_any (λ y. reads_value y w h) (x ∷ [])) ≡ false
  unread_node free w h e = ap (λ r. not free && (r || false)) e ∙ and_false (not free)

  nil_unread : (free : Bool) (w : Position) (t : Tree) (p q : ℕ) → first_read x ps Nil false p t ≡ None → first_other_read x (x ∷ []) free w q t ≡ None
  unfolding first_read first_other_read
  nil_unread free w Empty p q e = refl
  nil_unread free w (Node h a b) p q e =
      let k = nothing_first (head_reads x h && true) p (first_read x ps (parts_of Nil h).0 false (first_place p h) a) (first_read x ps (parts_of Nil h).1 false (second_place p h a) b) e in
      let here = unread_node free w h (ap (λ r. not (is_cell w) && r) (sym (and_true (head_reads x h)) ∙ k.0) ∙ and_false (not (is_cell w))) in
      let i = nil_unread (is_let_of x h) (first_position w h) a (first_place p h) (first_place q h) (subst (λ (z : Phrase × Phrase). first_read x ps z.0 false (first_place p h) a ≡ None) (nil_parts h) k.1) in
      let j = nil_unread false (second_position w h) b (second_place p h a) (second_place q h a) (subst (λ (z : Phrase × Phrase). first_read x ps z.1 false (second_place p h a) b ≡ None) (nil_parts h) k.2) in
      λ m. cond (here m) (Some q) (first_of (i m) (j m))

  reads_phrase : (σ : Phrase) (h : Head) (q : Phrase × Phrase) → parts σ h ≡ Some q → (has_value σ && (head_reads x h && true)) ≡ false → (not (is_cell (position_of σ)) && head_reads x h) ≡ false
  reads_phrase Term h q e f = sym (and_true (head_reads x h)) ∙ f
  reads_phrase OneCell h q e f = refl
  reads_phrase Nil h q e f = sym (and_true (head_reads x h)) ∙ f
  reads_phrase σ (Leaf y) q e f = absurd (cc)
  reads_phrase σ (Read y) q e f = absurd (cc)
  reads_phrase σ h q e f = and_false (not (is_cell (position_of σ)))

  unread : (free : Bool) (σ : Phrase) (t : Tree) (p q : ℕ) → is_phrase σ t ≡ true → first_read x ps σ false p t ≡ None → first_other_read x (x ∷ []) free (position_of σ) q (False σ p t) ≡ None
  unfolding falsified first_read first_other_read
  unread free σ Empty p q w e = refl
  unread free σ (Node h a b) p q w e =
      let o = open_phrase σ h a b w in
      let k = nothing_first (has_value σ && (head_reads x h && true)) p (first_read x ps (parts_of σ h).0 (is_guess x ps σ p h a b && reads x a) (first_place p h) a) (first_read x ps (parts_of σ h).1 (is_guess x ps σ p h a b && not (reads x a)) (second_place p h a) b) e in
      go (is_guess x ps σ p h a b) refl (unread_node free (position_of σ) h (reads_phrase σ h o.0 o.1 k.0)) k.1 k.2
      (in_child o.0 (is_read h) refl o.1 o.2 o.3 (λ z w f. unread (is_let_of x h) z a (first_place p h) (first_place q h) w f) (λ z w f. unread false z b (second_place p h a) (second_place q h l) w f))
    where
      l : Tree
      l = False (parts_of σ h).0 (first_place p h) a

      r : Tree
      r = False (parts_of σ h).1 (second_place p h a) b

      -- of the children, where they read none
      Children : Type 0
      Children =
          (first_read x ps (parts_of σ h).0 false (first_place p h) a ≡ None → first_other_read x (x ∷ []) (is_let_of x h) (first_position (position_of σ) h) (first_place q h) l ≡ None)
          × (first_read x ps (parts_of σ h).1 false (second_place p h a) b ≡ None → first_other_read x (x ∷ []) false (second_position (position_of σ) h) (second_place q h l) r ≡ None)

      in_child : (z : Phrase × Phrase) (d : Bool) → is_read h ≡ d → parts σ h ≡ Some z → is_phrase z.0 a ≡ true → is_phrase z.1 b ≡ true
          → ((y : Phrase) → is_phrase y a ≡ true → first_read x ps y false (first_place p h) a ≡ None → first_other_read x (x ∷ []) (is_let_of x h) (position_of y) (first_place q h) (False y (first_place p h) a) ≡ None)
          → ((y : Phrase) → is_phrase y b ≡ true → first_read x ps y false (second_place p h a) b ≡ None → first_other_read x (x ∷ []) false (position_of y) (second_place q h l) (False y (second_place p h a) b) ≡ None)
          → Children
      in_child z true n i u v ia ib = reading h n
        where
          reading : (k : Head) → is_read k ≡ true
              → (first_read x ps (parts_of σ k).0 false (first_place p k) a ≡ None → first_other_read x (x ∷ []) (is_let_of x k) (first_position (position_of σ) k) (first_place q k) (False (parts_of σ k).0 (first_place p k) a) ≡ None)
              × (first_read x ps (parts_of σ k).1 false (second_place p k a) b ≡ None → first_other_read x (x ∷ []) false (second_position (position_of σ) k) (second_place q k (False (parts_of σ k).0 (first_place p k) a)) (False (parts_of σ k).1 (second_place p k a) b) ≡ None)
          reading (Read y) n = (
            λ f. subst (λ t. first_other_read x (x ∷ []) false (first_position (position_of σ) (Read y)) (first_place q (Read y)) t ≡ None) (sym (kept_bare x ps Nil a (first_place p (Read y)) refl)) (nil_unread false (first_position (position_of σ) (Read y)) a (first_place p (Read y)) (first_place q (Read y)) f),
            λ f. subst (λ t. first_other_read x (x ∷ []) false (second_position (position_of σ) (Read y)) (second_place q (Read y) (False Nil (first_place p (Read y)) a)) t ≡ None) (sym (kept_bare x ps Nil b (second_place p (Read y) a) refl))
                (nil_unread false (second_position (position_of σ) (Read y)) b (second_place p (Read y) a) (second_place q (Read y) (False Nil (first_place p (Read y)) a)) f),
          )
          reading k n = absurd (both_ways false refl n)
      in_child z false n i u v ia ib =
          let same : parts_of σ h ≡ z = parts_are σ h z n i in
          let there = placed σ z.0 z.1 h (oracle_of σ h z i) in (
            λ f.
                subst (λ (y : Phrase × Position). first_other_read x (x ∷ []) (is_let_of x h) y.1 (first_place q h) (False y.0 (first_place p h) a) ≡ None) (λ j. ((sym same j).0, sym there.0 j))
                (ia z.0 u (subst (λ (y : Phrase × Phrase). first_read x ps y.0 false (first_place p h) a ≡ None) same f)),
            λ f.
                subst (λ (y : Phrase × Position). first_other_read x (x ∷ []) false y.1 (second_place q h l) (False y.0 (second_place p h a) b) ≡ None) (λ j. ((sym same j).1, sym there.1 j))
                (ib z.1 v (subst (λ (y : Phrase × Phrase). first_read x ps y.1 false (second_place p h a) b ≡ None) same f)),
          )

      go : (d : Bool) → is_guess x ps σ p h a b ≡ d → (not free && list_any (λ y. reads_value y (position_of σ) h) (x ∷ [])) ≡ false
          → first_read x ps (parts_of σ h).0 (is_guess x ps σ p h a b && reads x a) (first_place p h) a ≡ None → first_read x ps (parts_of σ h).1 (is_guess x ps σ p h a b && not (reads x a)) (second_place p h a) b ≡ None → Children
          → first_other_read x (x ∷ []) free (position_of σ) q (cond d no (Node h l r)) ≡ None
      go true g f i j c = λ m. cond (unread_node free (position_of σ) No (and_false (not (is_cell (position_of σ)))) m) (Some q) None
      go false g f i j c =
          let k = c.0 (subst (λ d. first_read x ps (parts_of σ h).0 (d && reads x a) (first_place p h) a ≡ None) g i) in
          let n = c.1 (subst (λ d. first_read x ps (parts_of σ h).1 (d && not (reads x a)) (second_place p h a) b ≡ None) g j) in
          λ m. cond (f m) (Some q) (first_of (k m) (n m))

  pub unread_choices : (game : Tree) → is_phrase Inputs game ≡ true → first_other_site types x 0 game ≡ None → first_read x ps Inputs false 0 game ≡ None → AreUnreadChoices (False Inputs 0 game) x
  unread_choices game w e f = record { chosen = definitions_kept Inputs game 0 0 e; unread = unread false Inputs game 0 0 w f }

  -- the sides of guesses

  node_reads : (h : Head) (a b : Tree) → head_reads_only (λ y. not (xs y)) h ≡ true → reads_none xs a ≡ true → reads_none xs b ≡ true → reads_none xs (Node h a b) ≡ true
  unfolding reads_only
  node_reads h a b e f k = ap₂ ◌&&◌ e (ap₂ ◌&&◌ f k)

  head_unread : (h : Head) → head_reads x h ≡ false → head_reads_only (λ y. not (xs y)) h ≡ true
  head_unread (Leaf y) e = ap (λ r. not (r || false)) e
  head_unread (Read y) e = ap (λ r. not (r || false)) e
  head_unread h e = refl

  nil_none : (t : Tree) (p : ℕ) → first_read x ps Nil false p t ≡ None → reads_none xs t ≡ true
  unfolding first_read reads_only
  nil_none Empty p e = refl
  nil_none (Node h a b) p e =
      let k = nothing_first (head_reads x h && true) p (first_read x ps (parts_of Nil h).0 false (first_place p h) a) (first_read x ps (parts_of Nil h).1 false (second_place p h a) b) e in
      node_reads h a b (head_unread h (sym (and_true (head_reads x h)) ∙ k.0))
      (nil_none a (first_place p h) (subst (λ (z : Phrase × Phrase). first_read x ps z.0 false (first_place p h) a ≡ None) (nil_parts h) k.1))
      (nil_none b (second_place p h a) (subst (λ (z : Phrase × Phrase). first_read x ps z.1 false (second_place p h a) b ≡ None) (nil_parts h) k.2))

  nil_false : (t : Tree) (p : ℕ) → first_read x ps Nil false p t ≡ None → reads_none xs (False Nil p t) ≡ true
  nil_false t p e = subst (λ u. reads_none xs u ≡ true) (sym (kept_bare x ps Nil t p refl)) (nil_none t p e)

  -- what is read nowhere in a node of terms isn't read in its parts

  abbrev Parts : Phrase → Head → ℕ → (left right : Bool) → Tree → Tree → Type 0
  Parts σ h p c d a b = ((has_value σ && (head_reads x h && true)) ≡ false) × (first_read x ps (parts_of σ h).0 c (first_place p h) a ≡ None) × (first_read x ps (parts_of σ h).1 d (second_place p h a) b ≡ None)

  parts_unread : (σ : Phrase) (h : Head) (p : ℕ) (a b : Tree) → first_read x ps σ false p (Node h a b) ≡ None → Parts σ h p (is_guess x ps σ p h a b && reads x a) (is_guess x ps σ p h a b && not (reads x a)) a b
  unfolding first_read
  parts_unread σ h p a b e = nothing_first (has_value σ && (head_reads x h && true)) p (first_read x ps (parts_of σ h).0 (is_guess x ps σ p h a b && reads x a) (first_place p h) a) (first_read x ps (parts_of σ h).1 (is_guess x ps σ p h a b && not (reads x a)) (second_place p h a) b) e

  abbrev Flat : Phrase → Tree → Type 0
  Flat Term u = reads_none xs u ≡ true
  Flat Terms u = reads_none xs u ≡ true
  Flat σ u = Unit {0}

  flat : (σ : Phrase) (t : Tree) (p : ℕ) → is_phrase σ t ≡ true → first_read x ps σ false p t ≡ None → Flat σ (False σ p t)
  unfolding is_phrase falsified reads_only
  flat Term (Node (Leaf y) a b) p w e = let k = parts_unread Term (Leaf y) p a b e in ap₂ ◌&&◌ (head_unread (Leaf y) (sym (and_true (y == x)) ∙ k.0)) (ap₂ ◌&&◌ (nil_false a _ k.1) (nil_false b _ k.2))
  flat Term (Node (Read y) a b) p w e = let k = parts_unread Term (Read y) p a b e in ap₂ ◌&&◌ (head_unread (Read y) (sym (and_true (y == x)) ∙ k.0)) (ap₂ ◌&&◌ (nil_false a _ k.1) (nil_false b _ k.2))
  flat Term (Node (Apply f) a b) p w e = let k = parts_unread Term (Apply f) p a b e in ap₂ ◌&&◌ (λ j. true) (ap₂ ◌&&◌ (flat Terms a _ (and_parts (is_phrase Terms a) _ w).0 k.1) (nil_false b _ k.2))
  flat Term (Node Eq a b) p w e = go (ps p && (reads x a || reads x b)) (parts_unread Term Eq p a b e) (λ k. flat Term a (first_place p Eq) (and_parts (is_phrase Term a) _ w).0 k) (λ k. flat Term b (second_place p Eq a) (and_parts (is_phrase Term a) _ w).1 k)
    where
      go : (d : Bool) → Parts Term Eq p (d && reads x a) (d && not (reads x a)) a b → (first_read x ps Term false (first_place p Eq) a ≡ None → reads_none xs (False Term (first_place p Eq) a) ≡ true)
          → (first_read x ps Term false (second_place p Eq a) b ≡ None → reads_none xs (False Term (second_place p Eq a) b) ≡ true) → reads_none xs (cond d no (Node Eq (False Term (first_place p Eq) a) (False Term (second_place p Eq a) b))) ≡ true
      go true k i j = refl
      go false k i j = node_reads Eq (False Term (first_place p Eq) a) (False Term (second_place p Eq a) b) refl (i k.1) (j k.2)
  flat Term (Node And a b) p w e = let k = parts_unread Term And p a b e in let r = and_parts (is_phrase Term a) _ w in ap₂ ◌&&◌ (λ j. true) (ap₂ ◌&&◌ (flat Term a _ r.0 k.1) (flat Term b _ r.1 k.2))
  flat Term (Node Or a b) p w e = let k = parts_unread Term Or p a b e in let r = and_parts (is_phrase Term a) _ w in ap₂ ◌&&◌ (λ j. true) (ap₂ ◌&&◌ (flat Term a _ r.0 k.1) (flat Term b _ r.1 k.2))
  flat Term (Node Not a b) p w e = let k = parts_unread Term Not p a b e in ap₂ ◌&&◌ (λ j. true) (ap₂ ◌&&◌ (flat Term a _ (and_parts (is_phrase Term a) _ w).0 k.1) (nil_false b _ k.2))
  flat Term (Node Yes a b) p w e = let k = parts_unread Term Yes p a b e in ap₂ ◌&&◌ (λ j. true) (ap₂ ◌&&◌ (nil_false a _ k.1) (nil_false b _ k.2))
  flat Term (Node No a b) p w e = let k = parts_unread Term No p a b e in ap₂ ◌&&◌ (λ j. true) (ap₂ ◌&&◌ (nil_false a _ k.1) (nil_false b _ k.2))
  flat Term t p w e = absurd (both_ways false refl w)
  flat Terms Empty p w e = refl
  flat Terms (Node Cons a b) p w e = let k = parts_unread Terms Cons p a b e in let r = and_parts (is_phrase Term a) _ w in ap₂ ◌&&◌ (λ j. true) (ap₂ ◌&&◌ (flat Term a _ r.0 k.1) (flat Terms b _ r.1 k.2))
  flat Terms t p w e = absurd (both_ways false refl w)
  flat σ t p w e = tt

  -- the indices of a read that is a side
  side_indices : (a : Tree) (p : ℕ) → reads x a ≡ true → first_read x ps Term true p a ≡ None → reads_none xs (first (False Term p a)) ≡ true
  unfolding first_read
  side_indices a p e f = subst (λ t. reads_none xs (first t) ≡ true) (sym (kept_read x ps a p e)) (go a e f)
    where
      go : (a : Tree) → reads x a ≡ true → first_read x ps Term true p a ≡ None → reads_none xs (first a) ≡ true
      go Empty e f = absurd (both_ways false refl e)
      go (Node (Leaf y) c d) e f = nil_none c _ (nothing_first (has_value Term && (head_reads x (Leaf y) && not true)) p (first_read x ps Nil false (first_place p (Leaf y)) c) (first_read x ps Nil false (second_place p (Leaf y) c) d) f).1
      go (Node (Read y) c d) e f = nil_none c _ (nothing_first (has_value Term && (head_reads x (Read y) && not true)) p (first_read x ps Nil false (first_place p (Read y)) c) (first_read x ps Nil false (second_place p (Read y) c) d) f).1
      go (Node h c d) e f = absurd (both_ways false refl e)

  of_guess : (o c : ℕ) (rs : List (ℕ × ℕ)) (us a b : Tree) (p q : ℕ) → is_phrase Term a ≡ true → is_phrase Term b ≡ true → first_read x ps Term (reads x a) p a ≡ None → first_read x ps Term (not (reads x a)) q b ≡ None
      → (reads x a || reads x b) ≡ true → is_bound us x ≡ false → IsUnread x (spot_of x o c rs us a b (False Term p a) (False Term q b))
  of_guess o c rs us a b p q v w e f k free = go (reads x a) refl e f k
    where
      go : (d : Bool) → reads x a ≡ d → first_read x ps Term d p a ≡ None → first_read x ps Term (not d) q b ≡ None → (d || reads x b) ≡ true
          → IsUnread x (record { origin = o; place = c; replications = rs; binders = us; side = cond d (False Term p a) (False Term q b); other = cond d (False Term q b) (False Term p a) })
      go true i e f k = record { side = side_indices a p i e; other = flat Term b q w f; binders = free }
      go false i e f k = record { side = side_indices b q k f; other = flat Term a p v e; binders = free }

  pub spots_bare : (P : Spot → Type 0) (σ : Phrase) (t : Tree) (p q c : ℕ) (rs : List (ℕ × ℕ)) (us : Tree) → is_bare σ ≡ true → AllByRecursion P (spots x ps σ p q c rs us t)
  unfolding spots
  spots_bare P σ Empty p q c rs us e = tt
  spots_bare P σ (Node h a b) p q c rs us e =
      let r = parts_bare σ h e in
      AllByRecursion_append P (cond (is_guess x ps σ p h a b) (here ∷ []) []) _ (go (is_term σ) (bare_is_no_term σ e))
      (AllByRecursion_append P (spots x ps (parts_of σ h).0 (first_place p h) (first_place q h) (construct_below σ q c) rs us a) _ (spots_bare P (parts_of σ h).0 a _ _ _ rs us r.first) (spots_bare P (parts_of σ h).1 b _ _ _ _ _ r.second))
    where
      here : Spot
      here = spot_of x p c rs us a b (False (parts_of σ h).0 (first_place p h) a) (False (parts_of σ h).1 (second_place p h a) b)

      go : (d : Bool) → d ≡ false → AllByRecursion P (cond (d && (is_equality h && (ps p && (reads x a || reads x b)))) (here ∷ []) [])
      go true f = absurd (both_ways true f refl)
      go false f = tt

  below_free : (σ : Phrase) (h : Head) (a us : Tree) → is_bound us x ≡ false → (made_by h a (Variable x) && not (chooses types h)) ≡ false → is_bound (binders_below σ h a us) x ≡ false
  unfolding is_bound
  below_free Arm Branch a us e f = left_false (is_bound a x) true refl f
  below_free Guarded Cons a us e f = refl
  below_free σ h a us e f = e

  spots_unread : (σ : Phrase) (t : Tree) (p q c : ℕ) (rs : List (ℕ × ℕ)) (us : Tree) (side : Bool) → is_phrase σ t ≡ true → is_bound us x ≡ false → first_other_site types x p t ≡ None → first_read x ps σ side p t ≡ None
      → AllByRecursion (IsUnread x) (spots x ps σ p q c rs us t)
  unfolding spots first_read first_other_site
  spots_unread σ Empty p q c rs us side w free s e = tt
  spots_unread σ (Node h a b) p q c rs us side w free s e =
      let o = open_phrase σ h a b w in
      let k = nothing_first (has_value σ && (head_reads x h && not side)) p (first_read x ps (parts_of σ h).0 (G && reads x a) (first_place p h) a) (first_read x ps (parts_of σ h).1 (G && not (reads x a)) (second_place p h a) b) e in
      let d = nothing_first (made_by h a (Variable x) && not (chooses types h)) p (first_other_site types x (first_place p h) a) (first_other_site types x (second_place p h a) b) s in
      let z = children (is_read h) refl o.0 o.1 o.2 o.3 d k.1 k.2
      (λ y n w s f. spots_unread y a (first_place p h) (first_place q h) (construct_below σ q c) rs us n w free s f)
      (λ y n w g s f. spots_unread y b (second_place p h a) (second_place q h (False (parts_of σ h).0 (first_place p h) a)) (construct_below σ q c) (replications_below h rs) (binders_below σ h a us) n w g s f) in
      AllByRecursion_append (IsUnread x) (cond G (here ∷ []) []) _ (go G refl o.0 o.1 o.2 o.3 k.1 k.2) (AllByRecursion_append (IsUnread x) (spots x ps (parts_of σ h).0 (first_place p h) (first_place q h) (construct_below σ q c) rs us a) _ z.0 z.1)
    where
      G : Bool
      G = is_guess x ps σ p h a b

      here : Spot
      here = spot_of x p c rs us a b (False (parts_of σ h).0 (first_place p h) a) (False (parts_of σ h).1 (second_place p h a) b)

      Here : Type 0
      Here = (made_by h a (Variable x) && not (chooses types h)) ≡ false

      children : (r : Bool) → is_read h ≡ r → (z : Phrase × Phrase) → parts σ h ≡ Some z → is_phrase z.0 a ≡ true → is_phrase z.1 b ≡ true
          → Here × (first_other_site types x (first_place p h) a ≡ None) × (first_other_site types x (second_place p h a) b ≡ None)
          → first_read x ps (parts_of σ h).0 (G && reads x a) (first_place p h) a ≡ None → first_read x ps (parts_of σ h).1 (G && not (reads x a)) (second_place p h a) b ≡ None
          → ((y : Phrase) (side : Bool) → is_phrase y a ≡ true → first_other_site types x (first_place p h) a ≡ None → first_read x ps y side (first_place p h) a ≡ None → AllByRecursion (IsUnread x) (spots x ps y (first_place p h) (first_place q h) (construct_below σ q c) rs us a))
          → ((y : Phrase) (side : Bool) → is_phrase y b ≡ true → is_bound (binders_below σ h a us) x ≡ false → first_other_site types x (second_place p h a) b ≡ None → first_read x ps y side (second_place p h a) b ≡ None
          → AllByRecursion (IsUnread x) (spots x ps y (second_place p h a) (second_place q h (False (parts_of σ h).0 (first_place p h) a)) (construct_below σ q c) (replications_below h rs) (binders_below σ h a us) b))
          → AllByRecursion (IsUnread x) (spots x ps (parts_of σ h).0 (first_place p h) (first_place q h) (construct_below σ q c) rs us a)
          × AllByRecursion (IsUnread x) (spots x ps (parts_of σ h).1 (second_place p h a) (second_place q h (False (parts_of σ h).0 (first_place p h) a)) (construct_below σ q c) (replications_below h rs) (binders_below σ h a us) b)
      children true n z i u v d e f ia ib = (
        spots_bare (IsUnread x) (parts_of σ h).0 a _ _ _ rs us (bare_read h n).0,
        spots_bare (IsUnread x) (parts_of σ h).1 b _ _ _ _ _ (bare_read h n).1,
      )
        where
          bare_read : (k : Head) → is_read k ≡ true → (is_bare (parts_of σ k).0 ≡ true) × (is_bare (parts_of σ k).1 ≡ true)
          bare_read (Read y) n = (refl, refl)
          bare_read k n = absurd (both_ways false refl n)
      children false n z i u v d e f ia ib =
          let same : parts_of σ h ≡ z = parts_are σ h z n i in (
            subst (λ (y : Phrase × Phrase). AllByRecursion (IsUnread x) (spots x ps y.0 (first_place p h) (first_place q h) (construct_below σ q c) rs us a)) (sym same)
                (ia z.0 (G && reads x a) u d.1 (subst (λ (y : Phrase × Phrase). first_read x ps y.0 (G && reads x a) (first_place p h) a ≡ None) same e)),
            subst (λ (y : Phrase × Phrase). AllByRecursion (IsUnread x) (spots x ps y.1 (second_place p h a) (second_place q h (False (parts_of σ h).0 (first_place p h) a)) (construct_below σ q c) (replications_below h rs) (binders_below σ h a us) b)) (sym same)
                (ib z.1 (G && not (reads x a)) v (below_free σ h a us free d.0) d.2
                (subst (λ (y : Phrase × Phrase). first_read x ps y.1 (G && not (reads x a)) (second_place p h a) b ≡ None) same f)),
          )

      go : (d : Bool) → G ≡ d → (z : Phrase × Phrase) → parts σ h ≡ Some z → is_phrase z.0 a ≡ true → is_phrase z.1 b ≡ true
          → first_read x ps (parts_of σ h).0 (G && reads x a) (first_place p h) a ≡ None → first_read x ps (parts_of σ h).1 (G && not (reads x a)) (second_place p h a) b ≡ None
          → AllByRecursion (IsUnread x) (cond d (here ∷ []) [])
      go false g z i u v e f = tt
      go true g z i u v e f =
          let m = and_parts (is_term σ) _ g in
          let n = and_parts (is_equality h) _ m.1 in
          let is : σ ≡ Term = term_is σ m.0 in
          let ih : h ≡ Eq = equality_is h n.0 in
          let parts_here : parts_of σ h ≡ (Term, Term) = λ j. parts_of (is j) (ih j) in
          let known : Some z ≡ Some (Term, Term) = sym i ∙ (λ j. parts (is j) (ih j)) in
          let those : z ≡ (Term, Term) = cc in (
            subst (λ (y : Phrase × Phrase). IsUnread x (spot_of x p c rs us a b (False y.0 (first_place p h) a) (False y.1 (second_place p h a) b))) (sym parts_here)
                (of_guess p c rs us a b (first_place p h) (second_place p h a) (subst (λ (y : Phrase × Phrase). is_phrase y.0 a ≡ true) those u) (subst (λ (y : Phrase × Phrase). is_phrase y.1 b ≡ true) those v)
                (subst (λ (y : Phrase × Bool). first_read x ps y.0 (y.1 && reads x a) (first_place p h) a ≡ None) (λ j. ((parts_here j).0, g j)) e)
                (subst (λ (y : Phrase × Bool). first_read x ps y.0 (y.1 && not (reads x a)) (second_place p h a) b ≡ None) (λ j. ((parts_here j).1, g j)) f)
                (and_parts (ps p) _ n.1).1 free),
            tt,
          )

  pub guesses_unread : (game : Tree) → is_phrase Inputs game ≡ true → first_other_site types x 0 game ≡ None → first_read x ps Inputs false 0 game ≡ None → AllByRecursion (IsUnread x) (spots_of x ps game)
  unfolding is_bound
  guesses_unread game w e f = spots_unread Inputs game 0 0 0 [] Empty false w refl e f
