-- Where the `new` of a variable stands above a place of a game, and where a term stands.
use Rattle.std.proofs.Common.{◌≡◌, ℕ, ◌+◌, ◌-◌, ◌<◌, ◌==◌, Bool, true, false, cond, List, ◌⊎◌, inl, inr, Option, Some, None, refl, sym, ap, ap₂, subst, ◌∙◌, le-ltb, lt-ltb, ltb-true, ltb-false, nat_lt, arith, eqb-true}
use Rattle.std.proofs.lemmas.Bool.{both_ways}
use Rattle.cv_syntax_trees.specs.declared.head.Head.{Head}
use Rattle.cv_syntax_trees.specs.declared.head.Head.TheVariants.{In, Key, Call, New, Repl, Leaf, Read, Apply, Eq, And, Or, Not, Yes, No}
use Rattle.cv_syntax_trees.specs.Head.{weight}
use Rattle.cv_syntax_trees.specs.Tree.{Tree, Empty, Node, first_place, second_place, size, subtree}
use Rattle.cv_syntax.specs.Layouts.{IsSyntax}
use Rattle.cv_scope_rules.specs.Context.{Context, replications_below}
use Rattle.cv_scope_rules.specs.Phrases.{Phrase, Nil, Inputs, Body, Term, is_phrase, oracle_parts, parts}
use Rattle.cv_scope_rules.proofs.Apart.{first_replications, second_replications}
use Rattle.cv_scope_runs.proofs.Rows.{position_of}
use Rattle.cv_scope_runs.proofs.Standing.{Stands, root, in_first, in_second, first_below, second_below}
use Rattle.cv_scene.specs.Scenes.{or_empty, part_at}
use Rattle.cv_steps.specs.Rewriting.{by_parts, has_term_at, is_term, parts_of}
use Rattle.cv_steps.proofs.Flat.{AreStill, IfStill, is_of_terms, open_phrase, rows_still}
use Rattle.cv_steps.proofs.Places.{bare}
use Rattle.cv_rule_fresh.specs.collisions.Choices.{Choice, choice_above, choice_behind, choice_in}

-- choices by places

choice_first : (x : ℕ) (last : Option Choice) (p : ℕ) (h : Head) (a b : Tree) (q : ℕ) → q < size a → choice_in x last p (Node h a b) (weight h + q) ≡ choice_in x last (first_place p h) a q
unfolding choice_in
choice_first x last p h a b q l =
    let m : weight h + q - weight h ≡ q = omega arith in
    ap₂ (λ v w. cond v last (cond w (choice_in x last (first_place p h) a (weight h + q - weight h)) (choice_in x (choice_behind x last p h) (second_place p h a) b (weight h + q - (weight h + size a)))))
    (le-ltb (weight h + q) (weight h) (omega arith)) (lt-ltb (weight h + q) (weight h + size a) (omega arith))
    ∙ ap (choice_in x last (first_place p h) a) m

choice_second : (x : ℕ) (last : Option Choice) (p : ℕ) (h : Head) (a b : Tree) (q : ℕ) → choice_in x last p (Node h a b) (weight h + size a + q) ≡ choice_in x (choice_behind x last p h) (second_place p h a) b q
unfolding choice_in
choice_second x last p h a b q =
    let m : weight h + size a + q - (weight h + size a) ≡ q = omega arith in
    ap₂ (λ v w. cond v last (cond w (choice_in x last (first_place p h) a (weight h + size a + q - weight h)) (choice_in x (choice_behind x last p h) (second_place p h a) b (weight h + size a + q - (weight h + size a)))))
    (le-ltb (weight h + size a + q) (weight h) (omega arith)) (le-ltb (weight h + size a + q) (weight h + size a) (omega arith))
    ∙ ap (choice_in x (choice_behind x last p h) (second_place p h a) b) m

choice_here : (x : ℕ) (last : Option Choice) (p : ℕ) (h : Head) (a b : Tree) → weight h ≡ 1 → choice_in x last p (Node h a b) 0 ≡ last
unfolding choice_in
choice_here x last p h a b e =
    ap (λ v. cond v last (cond (nat_lt 0 (weight h + size a)) (choice_in x last (first_place p h) a (0 - weight h)) (choice_in x (choice_behind x last p h) (second_place p h a) b (0 - (weight h + size a)))))
    (lt-ltb 0 (weight h) (omega arith))

module _ (game : Tree) (x : ℕ) where
  -- the last `new` above a subtree
  abbrev pub last_of : {p : ℕ} {σ : Phrase} {Γ : Context} {b : Tree} → Stands game p σ Γ b → Option Choice
  last_of root = None
  last_of (in_first e st) = last_of st
  last_of (in_second {p = p} {h = h} e st) = choice_behind x (last_of st) p h

  pub choice_down : {p : ℕ} {σ : Phrase} {Γ : Context} {b : Tree} (st : Stands game p σ Γ b) (q : ℕ) → q < size b → choice_above game x (p + q) ≡ choice_in x (last_of st) p b q
  unfolding size
  choice_down root q l = ap (choice_above game x) (let e : 0 + q ≡ q = omega arith in e)
  choice_down (in_first {p = p} {h = h} {a = a} {b = b} e st) q l =
      ap (choice_above game x) (let e : p + weight h + q ≡ p + (weight h + q) = omega arith in e)
      ∙ choice_down st (weight h + q) (omega arith) ∙ choice_first x (last_of st) p h a b q l
  choice_down (in_second {p = p} {h = h} {a = a} {b = b} e st) q l =
      ap (choice_above game x) (let e : p + weight h + size a + q ≡ p + (weight h + size a + q) = omega arith in e)
      ∙ choice_down st (weight h + size a + q) (omega arith) ∙ choice_second x (last_of st) p h a b q

  pub stands_choice : {p : ℕ} {σ : Phrase} {Γ : Context} (t : Tree) (st : Stands game p σ Γ t) → IsSyntax t → choice_above game x p ≡ last_of st
  unfolding size
  stands_choice Empty st i = absurd i
  stands_choice {p = p} (Node h a b) st i =
      ap (choice_above game x) (let e : p ≡ p + 0 = omega arith in e) ∙ choice_down st 0 (omega arith) ∙ choice_here x (last_of st) p h a b i

  -- the `new` stands in the game
  pub record StandsNew (c : Choice) : Type 0 where
    pub phrase : Phrase
    pub above : Context
    pub one : Tree
    pub two : Tree
    pub stands : Stands game c.place phrase above (Node (New x c.type) one two)

  behind : (last : Option Choice) (p : ℕ) (h : Head) (c : Choice) → choice_behind x last p h ≡ Some c → (last ≡ Some c) ⊎ ((p ≡ c.place) × (h ≡ New x c.type))
  behind last p (In d) c e = absurd (cc)
  behind last p (New y T) c e = go (y == x) refl e
    where
      go : (v : Bool) → (y == x) ≡ v → cond v (Some (record { place = p; type = T })) last ≡ Some c → (last ≡ Some c) ⊎ ((p ≡ c.place) × (New y T ≡ New x c.type))
      go true k f = let i : record { place = p; type = T } ≡ c = cc in inr (ap (λ (d : Choice). d.place) i, ap₂ New (eqb-true y x k) (ap (λ (d : Choice). d.type) i))
      go false k f = inl f
  behind last p h c e = inl e

  pub new_of : {p : ℕ} {σ : Phrase} {Γ : Context} {b : Tree} (st : Stands game p σ Γ b) (c : Choice) → last_of st ≡ Some c → StandsNew c
  new_of root c e = absurd (cc)
  new_of (in_first e st) c f = new_of st c f
  new_of (in_second {p = p} {σ = σ} {Γ = Γ} {h = h} {a = a} {b = b} e st) c f = go (behind (last_of st) p h c f) (new_of st c)
    where
      go : (last_of st ≡ Some c) ⊎ ((p ≡ c.place) × (h ≡ New x c.type)) → (last_of st ≡ Some c → StandsNew c) → StandsNew c
      go (inl i) ih = ih i
      go (inr i) ih = record { phrase = σ; above = Γ; one = a; two = b; stands = subst (λ k. Stands game c.place σ Γ (Node k a b)) i.1 (subst (λ q. Stands game q σ Γ (Node h a b)) i.0 st) }

-- phrases of games are those of contexts
pub plain_parts : (σ : Phrase) (h : Head) (q : Phrase × Phrase) → parts σ h ≡ Some q → oracle_parts σ h ≡ Some q
plain_parts Body (Key y) q e = absurd (cc)
plain_parts Body (Call y l) q e = absurd (cc)
plain_parts σ h q e = e

-- what may be rewritten goes by the table
parts_through : (σ : Phrase) (h : Head) (q : Phrase × Phrase) → parts σ h ≡ Some q → (parts_of σ h ≡ q) ⊎ ((parts_of σ h).0 ≡ Nil) × ((parts_of σ h).1 ≡ Nil)
parts_through σ (Read y) q e = inr (refl, refl)
parts_through σ h q e = inl (ap (by_parts h) e)

terms_unreplicated : (σ : Phrase) (h : Head) (q : Phrase × Phrase) → is_of_terms σ ≡ true → parts σ h ≡ Some q → (rs : List (ℕ × ℕ)) → replications_below h rs ≡ rs
terms_unreplicated Inputs h q t e rs = absurd (both_ways false refl t)
terms_unreplicated σ (Repl i n) q t e rs = absurd (cc)
terms_unreplicated σ h q t e rs = refl

terms_weigh : (h : Head) (q : Phrase × Phrase) → parts Term h ≡ Some q → weight h ≡ 1
terms_weigh (Leaf y) q e = refl
terms_weigh (Read y) q e = refl
terms_weigh (Apply f) q e = refl
terms_weigh Eq q e = refl
terms_weigh And q e = refl
terms_weigh Or q e = refl
terms_weigh Not q e = refl
terms_weigh Yes q e = refl
terms_weigh No q e = refl
terms_weigh h q e = absurd (cc)

terms_unchosen : (x : ℕ) (last : Option Choice) (p : ℕ) (σ : Phrase) (h : Head) (q : Phrase × Phrase) → is_of_terms σ ≡ true → parts σ h ≡ Some q → choice_behind x last p h ≡ last
terms_unchosen x last p Inputs h q t e = absurd (both_ways false refl t)
terms_unchosen x last p Body h q t e = absurd (both_ways false refl t)
terms_unchosen x last p σ (In d) q t e = absurd (cc)
terms_unchosen x last p σ (New y T) q t e = absurd (cc)
terms_unchosen x last p σ h q t e = refl

is_term_one : (σ : Phrase) → is_term σ ≡ true → σ ≡ Term
is_term_one Term e = refl
is_term_one σ e = absurd (both_ways false refl e)

module _ (game : Tree) where
  -- a term at a place of a subtree stands in the game; within terms, under the replications of the subtree
  pub record There (p : ℕ) (σ : Phrase) (Γ : Context) (t : Tree) (q : ℕ) : Type 0 where
    pub above : Context
    pub stands : Stands game (p + q) Term above (part_at t q)
    pub replications : is_of_terms σ ≡ true → above.replications ≡ Γ.replications

  moved : (p r q k : ℕ) (σ τ : Phrase) (Γ Δ : Context) (t u : Tree) → r + k ≡ p + q → part_at t q ≡ part_at u k → (is_of_terms σ ≡ true → is_of_terms τ ≡ true × (Δ.replications ≡ Γ.replications)) → There r τ Δ u k → There p σ Γ t q
  moved p r q k σ τ Γ Δ t u e f g z = record {
    above = z.above;
    stands = subst (λ v. Stands game (p + q) Term z.above v) (sym f) (subst (λ n. Stands game n Term z.above (part_at u k)) e z.stands);
    replications = λ i. let j = g i in z.replications j.0 ∙ j.1;
  }

  pub there : (σ : Phrase) (t : Tree) (q : ℕ) {p : ℕ} {Γ : Context} → Stands game p σ Γ t → is_phrase σ t ≡ true → has_term_at σ t q ≡ true → There p σ Γ t q
  unfolding has_term_at subtree
  there σ Empty q st w e = absurd (both_ways false refl e)
  there σ (Node h a b) q {p = p} {Γ = Γ} st w e =
      let o = open_phrase σ h a b w in
      go o.0 o.1 (in_first (plain_parts σ h o.0 o.1) st) (in_second (plain_parts σ h o.0 o.1) st) (nat_lt q (weight h)) refl (nat_lt q (weight h + size a)) refl e
      (λ s k. there o.0.0 a (q - weight h) s o.2 k) (λ s k. there o.0.1 b (q - (weight h + size a)) s o.3 k)
    where
      part : (v w : Bool) → Tree
      part v w = or_empty (cond v (Some (Node h a b)) (cond w (subtree a (q - weight h)) (subtree b (q - (weight h + size a)))))

      still : (o : Phrase × Phrase) → parts σ h ≡ Some o → is_of_terms σ ≡ true → AreStill h o
      still o k t = subst (IfStill h) k (rows_still σ h t)

      light : (n k : ℕ) → n ≡ 1 → k < n → k ≡ 0
      light n k l m = omega arith

      at_first : (o : Phrase × Phrase) → parts σ h ≡ Some o → has_term_at (parts_of σ h).0 a (q - weight h) ≡ true → has_term_at o.0 a (q - weight h) ≡ true
      at_first o k t = pick (parts_through σ h o k)
        where
          pick : (parts_of σ h ≡ o) ⊎ ((parts_of σ h).0 ≡ Nil) × ((parts_of σ h).1 ≡ Nil) → has_term_at o.0 a (q - weight h) ≡ true
          pick (inl i) = subst (λ (z : Phrase × Phrase). has_term_at z.0 a (q - weight h) ≡ true) i t
          pick (inr i) = absurd (bare Nil a (q - weight h) refl (subst (λ τ. has_term_at τ a (q - weight h) ≡ true) i.0 t))

      at_second : (o : Phrase × Phrase) → parts σ h ≡ Some o → has_term_at (parts_of σ h).1 b (q - (weight h + size a)) ≡ true → has_term_at o.1 b (q - (weight h + size a)) ≡ true
      at_second o k t = pick (parts_through σ h o k)
        where
          pick : (parts_of σ h ≡ o) ⊎ ((parts_of σ h).0 ≡ Nil) × ((parts_of σ h).1 ≡ Nil) → has_term_at o.1 b (q - (weight h + size a)) ≡ true
          pick (inl i) = subst (λ (z : Phrase × Phrase). has_term_at z.1 b (q - (weight h + size a)) ≡ true) i t
          pick (inr i) = absurd (bare Nil b (q - (weight h + size a)) refl (subst (λ τ. has_term_at τ b (q - (weight h + size a)) ≡ true) i.1 t))

      go : (o : Phrase × Phrase) → parts σ h ≡ Some o → Stands game (first_place p h) o.0 (first_below σ h Γ) a → Stands game (second_place p h a) o.1 (second_below σ h a Γ) b
          → (v : Bool) → nat_lt q (weight h) ≡ v → (w : Bool) → nat_lt q (weight h + size a) ≡ w
          → cond v (is_term σ) (cond w (has_term_at (parts_of σ h).0 a (q - weight h)) (has_term_at (parts_of σ h).1 b (q - (weight h + size a)))) ≡ true
          → (Stands game (first_place p h) o.0 (first_below σ h Γ) a → has_term_at o.0 a (q - weight h) ≡ true → There (first_place p h) o.0 (first_below σ h Γ) a (q - weight h))
          → (Stands game (second_place p h a) o.1 (second_below σ h a Γ) b → has_term_at o.1 b (q - (weight h + size a)) ≡ true → There (second_place p h a) o.1 (second_below σ h a Γ) b (q - (weight h + size a)))
          → There p σ Γ (Node h a b) q
      go o k s1 s2 true f w g t ia ib =
          let zero : q ≡ 0 = light (weight h) q (terms_weigh h o (subst (λ τ. parts τ h ≡ Some o) (is_term_one σ t) k)) (ltb-true q (weight h) f) in
          record {
            above = Γ;
            stands = subst (λ u. Stands game (p + q) Term Γ u) (sym (ap (λ v. part v (nat_lt q (weight h + size a))) f)) (subst (λ n. Stands game n Term Γ (Node h a b)) (omega arith) (subst (λ τ. Stands game p τ Γ (Node h a b)) (is_term_one σ t) st));
            replications = λ i. refl;
          }
      go o k s1 s2 false f true g t ia ib =
          let l = ltb-false q (weight h) f in
          moved p (first_place p h) q (q - weight h) σ o.0 Γ (first_below σ h Γ) (Node h a b) a (omega arith) (λ i. part (f i) (g i))
          (λ i. ((still o k i).first, first_replications (position_of σ) h Γ)) (ia s1 (at_first o k t))
      go o k s1 s2 false f false g t ia ib =
          let l = ltb-false q (weight h + size a) g in
          moved p (second_place p h a) q (q - (weight h + size a)) σ o.1 Γ (second_below σ h a Γ) (Node h a b) b (omega arith) (λ i. part (f i) (g i))
          (λ i. ((still o k i).second, second_replications (position_of σ) h a Γ ∙ terms_unreplicated σ h o i k Γ.replications)) (ib s2 (at_second o k t))

-- in terms nothing is chosen
pub terms_choose_none : (x : ℕ) (last : Option Choice) (σ : Phrase) (t : Tree) (p q : ℕ) → is_of_terms σ ≡ true → is_phrase σ t ≡ true → q < size t → choice_in x last p t q ≡ last
unfolding choice_in size
terms_choose_none x last σ Empty p q s w l = absurd (omega arith)
terms_choose_none x last σ (Node h a b) p q s w l =
    let o = open_phrase σ h a b w in
    let r : AreStill h o.0 = subst (IfStill h) o.1 (rows_still σ h s) in
    go (nat_lt q (weight h)) refl (nat_lt q (weight h + size a)) refl (terms_unchosen x last p σ h o.0 s o.1)
    (λ k. terms_choose_none x last o.0.0 a (first_place p h) (q - weight h) r.first o.2 k) (λ k. terms_choose_none x last o.0.1 b (second_place p h a) (q - (weight h + size a)) r.second o.3 k)
  where
    go : (v : Bool) → nat_lt q (weight h) ≡ v → (w : Bool) → nat_lt q (weight h + size a) ≡ w → choice_behind x last p h ≡ last
        → (q - weight h < size a → choice_in x last (first_place p h) a (q - weight h) ≡ last) → (q - (weight h + size a) < size b → choice_in x last (second_place p h a) b (q - (weight h + size a)) ≡ last)
        → cond v last (cond w (choice_in x last (first_place p h) a (q - weight h)) (choice_in x (choice_behind x last p h) (second_place p h a) b (q - (weight h + size a)))) ≡ last
    go true f w g e ia ib = refl
    go false f true g e ia ib = let m = ltb-false q (weight h) f in let n = ltb-true q (weight h + size a) g in ia (omega arith)
    go false f false g e ia ib = let m = ltb-false q (weight h + size a) g in ap (λ z. choice_in x z (second_place p h a) b (q - (weight h + size a))) e ∙ ib (omega arith)
