-- A variable whose one definition is a `new` is bound by no other node; so binders and `let` bind plain names.
use Rattle.std.proofs.Common.{◌≡◌, ℕ, Bool, true, false, cond, ◌&&◌, ◌||◌, not, ◌==◌, List, [], ◌∷◌, ◌++◌, length, Option, Some, None, refl, sym, ap, ap₂, ◌∙◌, eq-eqb, eqb-true}
use Rattle.std.proofs.lemmas.Bool.{both_ways, and_parts, or_parts}
use Rattle.std.specs.List.{list_all}
use Rattle.cv_syntax_trees.specs.declared.head.Head.{Head}
use Rattle.cv_syntax_trees.specs.declared.head.Head.TheVariants.{Binder, Branch, In, Let, New}
use Rattle.cv_syntax_trees.specs.Tree.{Tree, Empty, Node, second}
use Rattle.cv_scope_rules.specs.Context.{replications_below}
use Rattle.cv_scope_rules.specs.Made.{is_bound, made_by}
use Rattle.cv_scope_rules.specs.Sites.{Variable}
use Rattle.cv_scene.specs.Scenes.{head_names, names}
use Rattle.cv_scene.specs.Refusals.{definitions_in, new_of, only_new}
use Rattle.cv_scene.specs.Apt.{AreBindersPlain}
use Rattle.cv_scene.specs.Reductions.{Reduction, is_answer, is_plain, sites}
use Rattle.cv_match_laws.specs.names.Bindings.{HasOwnNames, has_news_alone, is_new}
use Rattle.cv_match_laws.proofs.names.Plain.{not_plain, one_below}

abbrev Definition : Type 0
Definition = Head × List (ℕ × ℕ)

abbrev are_new : List Definition → Bool
are_new ds = list_all (λ (d : Definition). is_new d.0) ds

new_both : (cs ds : List Definition) → are_new (cs ++ ds) ≡ true → (are_new cs ≡ true) × (are_new ds ≡ true)
new_both [] ds e = (refl, e)
new_both (c ∷ cs) ds e = let p = and_parts (is_new c.0) _ e in let q = new_both cs ds p.1 in (ap₂ ◌&&◌ p.0 q.0, q.1)

one_new : (ds : List Definition) (d : ℕ × List (ℕ × ℕ)) → only_new ds ≡ Some d → are_new ds ≡ true
one_new [] d e = absurd (none e)
  where
    none : ◌≡◌ {A = Option (ℕ × List (ℕ × ℕ))} None (Some d) → ⊥
    none e = cc
one_new (c ∷ []) d e = go c.0 c.1 e
  where
    none : ◌≡◌ {A = Option (ℕ × List (ℕ × ℕ))} None (Some d) → ⊥
    none e = cc

    go : (h : Head) (rs : List (ℕ × ℕ)) → only_new ((h, rs) ∷ []) ≡ Some d → are_new ((h, rs) ∷ []) ≡ true
    go (New x T) rs e = refl
    go h rs e = absurd (none e)
one_new (c ∷ b ∷ ds) d e = go c.0 c.1 e
  where
    none : ◌≡◌ {A = Option (ℕ × List (ℕ × ℕ))} None (Some d) → ⊥
    none e = cc

    go : (h : Head) (rs : List (ℕ × ℕ)) → only_new ((h, rs) ∷ b ∷ ds) ≡ Some d → are_new ((h, rs) ∷ b ∷ ds) ≡ true
    go (New x T) rs e = absurd (none e)
    go h rs e = absurd (none e)

news_alone : (x : ℕ) (rs : List (ℕ × ℕ)) (t : Tree) → are_new (definitions_in x rs t) ≡ true → has_news_alone x t ≡ true
unfolding definitions_in has_news_alone
news_alone x rs Empty e = refl
news_alone x rs (Node h a b) e =
    let p = new_both (here (made_by h a (Variable x))) (definitions_in x rs a ++ definitions_in x (replications_below h rs) b) e in
    let q = new_both (definitions_in x rs a) (definitions_in x (replications_below h rs) b) p.1 in
    ap₂ ◌&&◌ (go (made_by h a (Variable x)) p.0) (ap₂ ◌&&◌ (news_alone x rs a q.0) (news_alone x (replications_below h rs) b q.1))
  where
    here : Bool → List Definition
    here z = cond z ((h, rs) ∷ []) []

    go : (z : Bool) → are_new (cond z ((h, rs) ∷ []) []) ≡ true → (not z || is_new h) ≡ true
    go true e = (and_parts (is_new h) _ e).0
    go false e = refl

pub only_by_new : (x : ℕ) (t : Tree) (d : ℕ × List (ℕ × ℕ)) → new_of t x ≡ Some d → has_news_alone x t ≡ true
only_by_new x t d e = news_alone x [] t (one_new (definitions_in x [] t) d e)

-- at a node

not_made : (z : Bool) → (not z || false) ≡ true → z ≡ false
not_made true e = absurd (both_ways false refl e)
not_made false e = refl

unnamed_unbound : (x : ℕ) (bs : Tree) → names x bs ≡ false → is_bound bs x ≡ false
unfolding names is_bound
unnamed_unbound x Empty e = refl
unnamed_unbound x (Node (Binder y T) a b) e =
    let p = or_parts (y == x) _ e in
    ap₂ ◌||◌ (swapped (y == x) refl p.0) (unnamed_unbound x b (or_parts (names x a) (names x b) p.1).1)
  where
    swapped : (z : Bool) → (y == x) ≡ z → z ≡ false → (x == y) ≡ false
    swapped true i f = absurd (both_ways true f refl)
    swapped false i f = go (x == y) refl
      where
        go : (w : Bool) → (x == y) ≡ w → w ≡ false
        go false j = refl
        go true j = absurd (both_ways (y == x) i (eq-eqb y x (sym (eqb-true x y j))))
unnamed_unbound x (Node h a b) e = refl

second_unnamed : (x : ℕ) (t : Tree) → names x t ≡ false → names x (second t) ≡ false
unfolding names
second_unnamed x Empty e = e
second_unnamed x (Node h a b) e = (or_parts (names x a) (names x b) (or_parts (head_names x h) _ e).1).1

bound_plain : (r : Reduction) (bs : Tree) → ((x : ℕ) → is_plain r x ≡ false → is_bound bs x ≡ false) → AreBindersPlain r bs
unfolding is_bound
bound_plain r Empty f = tt
bound_plain r (Node (Binder y T) a b) f = (go (is_plain r y) refl, bound_plain r b (λ x e. (or_parts (x == y) (is_bound b x) (f x e)).1))
  where
    go : (z : Bool) → is_plain r y ≡ z → z ≡ true
    go true e = refl
    go false e = absurd (both_ways _ (or_parts (y == y) (is_bound b y) (f y e)).0 (eq-eqb y y refl))
bound_plain r (Node h a b) f = tt

module _ (r : Reduction) where
  children_own : (h : Head) (a b : Tree) → HasOwnNames r (Node h a b) → HasOwnNames r a × HasOwnNames r b
  unfolding has_news_alone names
  children_own h a b o = (
    record { key = (rest r.key o.key).0; coins = λ y e. (rest y (o.coins y e)).0; answers = λ k l. (unnamed (r.answer k) (o.answers k l)).0 },
    record { key = (rest r.key o.key).1; coins = λ y e. (rest y (o.coins y e)).1; answers = λ k l. (unnamed (r.answer k) (o.answers k l)).1 },
  )
    where
      rest : (x : ℕ) → ((not (made_by h a (Variable x)) || is_new h) && (has_news_alone x a && has_news_alone x b)) ≡ true → (has_news_alone x a ≡ true) × (has_news_alone x b ≡ true)
      rest x e = and_parts (has_news_alone x a) (has_news_alone x b) (and_parts (not (made_by h a (Variable x)) || is_new h) _ e).1

      unnamed : (x : ℕ) → (head_names x h || (names x a || names x b)) ≡ false → (names x a ≡ false) × (names x b ≡ false)
      unnamed x e = or_parts (names x a) (names x b) (or_parts (head_names x h) _ e).1

  made_here : (x : ℕ) (h : Head) (a b : Tree) → is_new h ≡ false → has_news_alone x (Node h a b) ≡ true → made_by h a (Variable x) ≡ false
  unfolding has_news_alone
  made_here x h a b n e = not_made (made_by h a (Variable x)) (ap (λ c. not (made_by h a (Variable x)) || c) (sym n) ∙ (and_parts (not (made_by h a (Variable x)) || is_new h) _ e).0)

  pub input_plain : (c : ℕ) (a b : Tree) → HasOwnNames r (Node (In c) a b) → AreBindersPlain r (second a)
  input_plain c a b o =
      bound_plain r (second a) (not_plain r (λ x. is_bound (second a) x ≡ false) (made_here r.key (In c) a b refl o.key) (λ y e. made_here y (In c) a b refl (o.coins y e))
      (λ k l. unnamed_unbound (r.answer k) (second a) (second_unnamed (r.answer k) a ((children_own (In c) a b o).0.answers k l))))

  pub branch_plain : (a b : Tree) → HasOwnNames r (Node Branch a b) → AreBindersPlain r a
  branch_plain a b o =
      bound_plain r a (not_plain r (λ x. is_bound a x ≡ false) (made_here r.key Branch a b refl o.key) (λ y e. made_here y Branch a b refl (o.coins y e))
      (λ k l. unnamed_unbound (r.answer k) a ((children_own Branch a b o).0.answers k l)))

  named_here : (x : ℕ) (h : Head) (a b : Tree) → names x (Node h a b) ≡ false → head_names x h ≡ false
  unfolding names
  named_here x h a b e = (or_parts (head_names x h) _ e).0

  other_way : (x y : ℕ) → (y == x) ≡ false → (x == y) ≡ false
  other_way x y e = go (x == y) refl
    where
      go : (w : Bool) → (x == y) ≡ w → w ≡ false
      go false j = refl
      go true j = absurd (both_ways (y == x) e (eq-eqb y x (sym (eqb-true x y j))))

  pub let_plain : (x T : ℕ) (a b : Tree) → HasOwnNames r (Node (Let x T) a b) → is_plain r x ≡ true
  let_plain x T a b o = go (is_plain r x) refl
    where
      other : (y : ℕ) → is_plain r y ≡ false → (y == x) ≡ false
      other = not_plain r (λ y. (y == x) ≡ false) (made_here r.key (Let x T) a b refl o.key) (λ y e. made_here y (Let x T) a b refl (o.coins y e)) (λ k l. other_way (r.answer k) x (named_here (r.answer k) (Let x T) a b (o.answers k l)))

      go : (z : Bool) → is_plain r x ≡ z → z ≡ true
      go true e = refl
      go false e = absurd (both_ways _ (other x e) (eq-eqb x x refl))

  pub new_no_answer : (x T : ℕ) (a b : Tree) → HasOwnNames r (Node (New x T) a b) → is_answer r x ≡ false
  new_no_answer x T a b o = go (is_answer r x) refl
    where
      go : (z : Bool) → is_answer r x ≡ z → z ≡ false
      go false e = refl
      go true e =
          let q = one_below (λ k. r.answer k == x) (length (sites r)) e in
          absurd (both_ways (x == r.answer q.number) (named_here (r.answer q.number) (New x T) a b (o.answers q.number q.less)) (eq-eqb x (r.answer q.number) (sym (eqb-true (r.answer q.number) x q.holds))))

  pub below_own : (h : Head) (a b : Tree) → HasOwnNames r (Node h a b) → HasOwnNames r a × HasOwnNames r b
  below_own h a b o = children_own h a b o
