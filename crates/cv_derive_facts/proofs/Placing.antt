-- Where the trees of a game stand: each is a phrase of the grammar there, and this stands above it.
use Rattle.std.proofs.Common.{◌≡◌, ℕ, ◌+◌, ◌-◌, ◌<◌, ◌≤◌, true, false, Option, Some, None, refl, sym, ap, ap₂, subst, ◌∙◌, zero-add, add-zero, arith}
use Rattle.std.proofs.lemmas.Bool.{both_ways}
use Rattle.cv_syntax_trees.specs.declared.head.Head.{Head}
use Rattle.cv_syntax_trees.specs.declared.head.Head.TheVariants.{Yield, Par, Out, Event, New, Let, If, Find, Branch, Cons, Key, Call}
use Rattle.cv_syntax_trees.specs.Head.{weight}
use Rattle.cv_syntax.specs.Layouts.{IsSyntax}
use Rattle.cv_syntax_trees.specs.Tree.{Tree, Empty, Node, first, second, size, subtree, first_place, second_place}
use Rattle.cv_meaning_runs.specs.Placed.{IsPassedDown}
use Rattle.cv_scope_rules.specs.Context.{Context, first_position, nothing_known, second_position}
use Rattle.cv_scope_rules.specs.Phrases.{Phrase, Inputs, Body, Branches, Arm, Guards, Guarded, Binders, Cells, Term, is_oracle_phrase, oracle_parts}
use Rattle.cv_scope_runs.proofs.Games.{has_parts, phrase_parts}
use Rattle.cv_scope_runs.proofs.Rows.{placed, position_of, walks}
use Rattle.cv_path.specs.declared.place.Lies.{Lies}
use Rattle.cv_path.specs.declared.place.Lies.TheVariants.{Here, Within, Behind}
use Rattle.cv_path.specs.Places.{LiesAt}
use Rattle.cv_path.proofs.Bounds.{lies_somewhere}
use Rattle.cv_path.proofs.Going.{subtree_here, subtree_within, subtree_behind}
use Rattle.cv_scope_rules.specs.Behind.{in_body, in_condition, in_list}
use Rattle.cv_derive_facts.specs.Promises.{BranchPlaces, BranchesPlaces, FindPlaces, OwnTermsStand}
use Rattle.cv_scope_rules.specs.Above.{first_standing, second_standing, standing_at, stands_at}
use Rattle.cv_derive_facts.proofs.Flat.{Some_injective, find_parts, flat_parts, has_terms, terms_parts}
use Rattle.cv_derive_facts.proofs.Standings.{standing_here, standing_within, standing_behind}

-- in a flat phrase nothing more stands
flat_standing : (t : Tree) (σ : Phrase) → walks σ ≡ false → is_oracle_phrase σ t ≡ true → (Γ : Context) (q : ℕ) → q < size t → standing_at (position_of σ) Γ t q ≡ Some Γ
unfolding size
flat_standing Empty σ w f Γ q l = absurd (omega (arith, l))
flat_standing (Node h a b) σ w f Γ q l =
    let x = has_parts σ h a b f in
    let r = flat_parts σ x.0.0 x.0.1 h w x.1 in
    let s = phrase_parts σ x.0.0 x.0.1 h a b x.1 f in
    let v = placed σ x.0.0 x.0.1 h x.1 in
    go x.0.0 x.0.1 v (r.stands_first Γ) (r.stands_second a Γ) (flat_standing a x.0.0 r.first s.0 Γ) (flat_standing b x.0.1 r.second s.1 Γ) (lies_somewhere h a q)
  where
    go : (τ ρ : Phrase) → (first_position (position_of σ) h ≡ position_of τ) × (second_position (position_of σ) h ≡ position_of ρ) → first_standing (position_of σ) h Γ ≡ Γ → second_standing (position_of σ) h a Γ ≡ Γ
        → ((k : ℕ) → k < size a → standing_at (position_of τ) Γ a k ≡ Some Γ) → ((k : ℕ) → k < size b → standing_at (position_of ρ) Γ b k ≡ Some Γ)
        → (k : Lies) × LiesAt h a q k → standing_at (position_of σ) Γ (Node h a b) q ≡ Some Γ
    go τ ρ v e f i j (Here, k) = standing_here (position_of σ) Γ (Node h a b) h a b q 0 refl k
    go τ ρ v e f i j (Within m, k) = standing_within (position_of σ) Γ (Node h a b) h a b q m refl k ∙ (ap₂ (λ u Δ. standing_at u Δ a m) v.0 e ∙ i m k.1)
    go τ ρ v e f i j (Behind m, k) = let n : weight h + size a + m ≡ q = k in standing_behind (position_of σ) Γ (Node h a b) h a b q m refl k ∙ (ap₂ (λ u Δ. standing_at u Δ b m) v.1 f ∙ j m (omega arith))

module _ (game : Tree) where
  pub record StandsAs (p : ℕ) (σ : Phrase) (Γ : Context) (t : Tree) : Type 0 where
    pub phrase : is_oracle_phrase σ t ≡ true
    pub tree : (q : ℕ) → q < size t → subtree game (p + q) ≡ subtree t q
    pub stands : (q : ℕ) → q < size t → stands_at game (p + q) ≡ standing_at (position_of σ) Γ t q

  pub game_stands : is_oracle_phrase Inputs game ≡ true → StandsAs 0 Inputs nothing_known game
  game_stands f = record { phrase = f; tree = λ q l. ap (subtree game) (zero-add q); stands = λ q l. ap (stands_at game) (zero-add q) }

  pub first_stands : (p : ℕ) (σ τ ρ : Phrase) (Γ : Context) (h : Head) (a b : Tree) → oracle_parts σ h ≡ Some (τ, ρ) → StandsAs p σ Γ (Node h a b) → StandsAs (first_place p h) τ (first_standing (position_of σ) h Γ) a
  unfolding size
  first_stands p σ τ ρ Γ h a b e s = record {
    phrase = (phrase_parts σ τ ρ h a b e s.phrase).0;
    tree = λ q l. ap (subtree game) (let n : p + weight h + q ≡ p + (weight h + q) = omega arith in n) ∙ (s.tree (weight h + q) (omega arith) ∙ subtree_within (Node h a b) h a b (weight h + q) q refl (refl, l));
    stands = λ q l.
        ap (stands_at game) (let n : p + weight h + q ≡ p + (weight h + q) = omega arith in n)
        ∙ (s.stands (weight h + q) (omega arith) ∙ (standing_within (position_of σ) Γ (Node h a b) h a b (weight h + q) q refl (refl, l) ∙ ap (λ u. standing_at u (first_standing (position_of σ) h Γ) a q) (placed σ τ ρ h e).0));
  }

  pub second_stands : (p : ℕ) (σ τ ρ : Phrase) (Γ : Context) (h : Head) (a b : Tree) → oracle_parts σ h ≡ Some (τ, ρ) → StandsAs p σ Γ (Node h a b) → StandsAs (second_place p h a) ρ (second_standing (position_of σ) h a Γ) b
  unfolding size
  second_stands p σ τ ρ Γ h a b e s = record {
    phrase = (phrase_parts σ τ ρ h a b e s.phrase).1;
    tree = λ q l. ap (subtree game) (let n : p + weight h + size a + q ≡ p + (weight h + size a + q) = omega arith in n) ∙ (s.tree (weight h + size a + q) (omega arith) ∙ subtree_behind (Node h a b) h a b (weight h + size a + q) q refl refl);
    stands = λ q l.
        ap (stands_at game) (let n : p + weight h + size a + q ≡ p + (weight h + size a + q) = omega arith in n)
        ∙ (s.stands (weight h + size a + q) (omega arith) ∙ (standing_behind (position_of σ) Γ (Node h a b) h a b (weight h + size a + q) q refl refl ∙ ap (λ u. standing_at u (second_standing (position_of σ) h a Γ) b q) (placed σ τ ρ h e).1));
  }

  module _ (p : ℕ) (σ : Phrase) (Γ : Context) (h : Head) (a b : Tree) (l : 0 < weight h) (s : StandsAs p σ Γ (Node h a b)) where
    pub here_stands : stands_at game p ≡ Some Γ
    unfolding size
    here_stands = ap (stands_at game) (sym (add-zero p)) ∙ (s.stands 0 (omega (arith, l)) ∙ standing_here (position_of σ) Γ (Node h a b) h a b 0 0 refl l)

    pub here_tree : subtree game p ≡ Some (Node h a b)
    unfolding size
    here_tree = ap (subtree game) (sym (add-zero p)) ∙ (s.tree 0 (omega (arith, l)) ∙ subtree_here (Node h a b) h a b 0 0 refl l)

  flat_stands : (p q r : ℕ) (σ : Phrase) (Γ : Context) (t : Tree) → walks σ ≡ false → r ≡ p + q → q < size t → StandsAs p σ Γ t → stands_at game r ≡ Some Γ
  flat_stands p q r σ Γ t w e l s = ap (stands_at game) e ∙ (s.stands q l ∙ flat_standing t σ w s.phrase Γ q l)

  -- a construct's own terms

  terms_stand : (p : ℕ) (σ : Phrase) (Γ : Context) (h : Head) (a b : Tree) → has_terms h ≡ true → first_standing (position_of σ) h Γ ≡ Γ → StandsAs p σ Γ (Node h a b) → (q : ℕ) → first_place p h ≤ q → q < second_place p h a → stands_at game q ≡ Some Γ
  terms_stand p σ Γ h a b c e s q k l =
      let x = has_parts σ h a b s.phrase in
      flat_stands (first_place p h) (q - (p + weight h)) q x.0.0 (first_standing (position_of σ) h Γ) a (terms_parts σ x.0.0 x.0.1 h c x.1) (omega arith) (omega arith) (first_stands p σ x.0.0 x.0.1 Γ h a b x.1 s)
      ∙ ap Some e

  own_terms : (p : ℕ) (σ : Phrase) (Γ : Context) (t : Tree) → IsSyntax t → StandsAs p σ Γ t → OwnTermsStand game Γ p t
  own_terms p σ Γ Empty i s q o = absurd i
  own_terms p σ Γ (Node (Find l) a b) i s q o = absurd o
  own_terms p σ Γ (Node Par a b) i s q o = absurd o
  own_terms p σ Γ (Node Cons a b) i s q o = absurd (omega (arith, i))
  own_terms p σ Γ (Node h a b) i s q o = terms_stand p σ Γ h a b refl refl s q o.0 o.1

  -- the branches of a `find`

  abbrev IsOne : Head → Option (Phrase × Phrase) → Type 0
  IsOne h None = Unit {0}
  IsOne h (Some q) = weight h ≡ 1

  all_one : (h : Head) → IsOne h (oracle_parts Body h)
  all_one Yield = refl
  all_one (Out c) = refl
  all_one (New x T) = refl
  all_one (Let x T) = refl
  all_one (Key x) = refl
  all_one (Call x l) = refl
  all_one (Event e) = refl
  all_one If = refl
  all_one (Find l) = refl
  all_one h = tt

  body_weight : (h : Head) (q : Phrase × Phrase) → oracle_parts Body h ≡ Some q → weight h ≡ 1
  body_weight h q e = subst (IsOne h) e (all_one h)

  pub body_stands : (p : ℕ) (Γ : Context) (t : Tree) → StandsAs p Body Γ t → stands_at game p ≡ Some Γ
  unfolding is_oracle_phrase
  body_stands p Γ Empty s = absurd (both_ways _ refl s.phrase)
  body_stands p Γ (Node h a b) s = let x = has_parts Body h a b s.phrase in here_stands p Body Γ h a b (let e = body_weight h x.0 x.1 in omega (arith, e)) s

  pub guards_places : (p : ℕ) (Γ : Context) (us t : Tree) → StandsAs p Guards (in_list Γ us) t → BranchPlaces game Γ p us t
  unfolding is_oracle_phrase
  guards_places p Γ us Empty s = absurd (both_ways _ refl s.phrase)
  guards_places p Γ us (Node Cons cells (Node Cons c body)) s =
      let list = first_stands p Guards Cells Guarded (in_list Γ us) Cons cells (Node Cons c body) refl s in
      let rest = second_stands p Guards Cells Guarded (in_list Γ us) Cons cells (Node Cons c body) refl s in
      let test = first_stands (second_place p Cons cells) Guarded Term Body (in_condition Γ us cells) Cons c body refl rest in
      let last = second_stands (second_place p Cons cells) Guarded Term Body (in_condition Γ us cells) Cons c body refl rest in
      record {
        list = λ q l. flat_stands (first_place p Cons) q (p + q) Cells (in_list Γ us) cells refl (omega arith) l list;
        condition = λ q l. flat_stands (first_place (second_place p Cons cells) Cons) q (p + size cells + q) Term (in_condition Γ us cells) c refl (omega arith) l test;
        body = ap (stands_at game) (let n : p + size cells + size c ≡ second_place (second_place p Cons cells) Cons c = omega arith in n) ∙ body_stands (second_place (second_place p Cons cells) Cons c) (in_body Γ us cells c) body last;
      }
  guards_places p Γ us (Node Cons cells Empty) s = absurd (both_ways _ refl (phrase_parts Guards Cells Guarded Cons cells Empty refl s.phrase).1)
  guards_places p Γ us (Node Cons cells (Node h c body)) s = absurd (both_ways _ refl (phrase_parts Guards Cells Guarded Cons cells (Node h c body) refl s.phrase).1)
  guards_places p Γ us (Node h cells t) s = absurd (both_ways _ refl s.phrase)

  pub arm_places : (p : ℕ) (Γ : Context) (t : Tree) → StandsAs p Arm Γ t → BranchPlaces game Γ (second_place p Branch (first t)) (first t) (second t)
  unfolding is_oracle_phrase
  arm_places p Γ Empty s = absurd (both_ways _ refl s.phrase)
  arm_places p Γ (Node Branch us rest) s = guards_places (second_place p Branch us) Γ us rest (second_stands p Arm Binders Guards Γ Branch us rest refl s)
  arm_places p Γ (Node h us rest) s = absurd (both_ways _ refl s.phrase)

  branches_places : (p : ℕ) (Γ : Context) (t : Tree) → StandsAs p Branches Γ t → BranchesPlaces game Γ p t
  unfolding is_oracle_phrase
  branches_places p Γ Empty s = tt
  branches_places p Γ (Node Cons t more) s =
      (arm_places (first_place p Cons) Γ t (first_stands p Branches Arm Branches Γ Cons t more refl s), branches_places (second_place p Cons t) Γ more (second_stands p Branches Arm Branches Γ Cons t more refl s))
  branches_places p Γ (Node h t more) s = absurd (both_ways _ refl s.phrase)

  find_places : (p : ℕ) (σ : Phrase) (Γ : Context) (t : Tree) → StandsAs p σ Γ t → FindPlaces game Γ p t
  find_places p σ Γ Empty s = tt
  find_places p σ Γ (Node (Find l) a b) s =
      let x = has_parts σ (Find l) a b s.phrase in
      branches_places (first_place p (Find l)) Γ a (subst (λ τ. StandsAs (first_place p (Find l)) τ Γ a) (find_parts σ l x.0 x.1) (first_stands p σ x.0.0 x.0.1 Γ (Find l) a b x.1 s))
  find_places p σ Γ (Node h a b) s = tt

  -- a tree stands somewhere, and with it its children

  abbrev pub StandsSomewhere : ℕ → Tree → Type 0
  StandsSomewhere p t = (σ : Phrase) × (Γ : Context) × StandsAs p σ Γ t

  pub somewhere_passed : IsPassedDown StandsSomewhere
  somewhere_passed p h a b s =
      let x = has_parts s.0 h a b s.2.phrase in
      ((x.0.0, first_standing (position_of s.0) h s.1, first_stands p s.0 x.0.0 x.0.1 s.1 h a b x.1 s.2), (x.0.1, second_standing (position_of s.0) h a s.1, second_stands p s.0 x.0.0 x.0.1 s.1 h a b x.1 s.2))

  pub somewhere_places : (p : ℕ) (t : Tree) (Γ : Context) → IsSyntax t → StandsSomewhere p t → stands_at game p ≡ Some Γ → OwnTermsStand game Γ p t × FindPlaces game Γ p t
  somewhere_places p Empty Γ i s e = absurd i
  somewhere_places p (Node h a b) Γ i s e =
      let same : s.1 ≡ Γ = Some_injective s.1 Γ (sym (here_stands p s.0 s.1 h a b (omega (arith, i)) s.2) ∙ e) in
      let x = subst (λ Δ. StandsAs p s.0 Δ (Node h a b)) same s.2 in
      (own_terms p s.0 Γ (Node h a b) i x, find_places p s.0 Γ (Node h a b) x)
