-- Two cells of such a variable are equal only by chance.
use Rattle.std.proofs.Common.{◌≡◌, ℕ, ◌-◌, ◌*◌, ◌≤◌, ◌||◌, ◌&&◌, ◌==◌, Bool, true, false, List, [], ◌∷◌, length, map, All, inl, inr, Option, Some, None, is_some, refl, sym, ap, subst, ◌∙◌, arith, eq-eqb, eqb-true, cond, not, le_trans, mul-le-mul_left, mul-le-mul_right}
use Rattle.std.specs.Prelude.{Contains}
use Rattle.std.proofs.lemmas.Bool.{and_parts, both_ways, not-true, or_left, or_parts, or_right}
use Rattle.std.proofs.lemmas.List.{length-map}
use Rattle.std.proofs.lemmas.List.Elements.{All-from_recursion}
use Rattle.std.specs.List.{list_any}
use Rattle.cv_syntax_trees.specs.declared.head.Head.{Head}
use Rattle.cv_syntax_trees.specs.declared.head.Head.TheVariants.{Binder, Branch, In, Let, New}
use Rattle.cv_syntax_trees.specs.Declarations.{Declaration}
use Rattle.cv_syntax_trees.specs.Tree.{Tree, Empty, Node, second}
use Rattle.cv_meaning.specs.Cells.{cells, tuples_below}
use Rattle.cv_meaning.specs.Chances.{AtMost, Chance, chance}
use Rattle.cv_meaning.specs.Interpretation.{Interpretation, Setting, setting_of}
use Rattle.cv_meaning.specs.Runs.{Adversary, Mode}
use Rattle.cv_meaning.specs.Tapes.{Cell, New_at, Tape}
use Rattle.cv_meaning_laws.specs.adequacy.Typed.{AreBelowParameters}
use Rattle.cv_meaning_laws.proofs.Listed.{Has, Within, cells_distinct, each_map_in, within_has}
use Rattle.cv_meaning_laws.proofs.adequacy.Lists.{has_below}
use Rattle.cv_meaning_chances.specs.Fractions.{birthday_bound}
use Rattle.cv_meaning_chances.specs.Tests.{some_equal}
use Rattle.cv_meaning_chances.proofs.Hits.{chance_some_equal}
use Rattle.cv_syntax_trees.specs.declared.sites.sort.Sort.{Sort}
use Rattle.cv_syntax_trees.specs.declared.sites.sort.Sort.TheVariants.{BelowParameter, OfType}
use Rattle.cv_syntax_trees.specs.sites.Sites.{Variable as FirstSite, at_parameters, bound_sort, first_of, first_site, parameters_below, site_here}
use Rattle.cv_scope_rules.specs.Context.{Context}
use Rattle.cv_scope_rules.specs.Made.{is_bound, made_by}
use Rattle.cv_scope_rules.specs.Phrases.{Binders, Inputs, IsWellFormed, Nil, Phrase, is_phrase}
use Rattle.cv_scope_rules.specs.Scope.{is_variable}
use Rattle.cv_scope_rules.specs.Sites.{Variable}
use Rattle.cv_scope_runs.proofs.FactsRuns.{well_game}
use Rattle.cv_scope_runs.proofs.Games.{Game}
use Rattle.cv_scope_runs.proofs.Plain.{game_context}
use Rattle.cv_scope_runs.proofs.Standing.{Stands, root, in_first, in_second}
use Rattle.cv_scope_rules.specs.typing.Parts.{IsTypedGame}
use Rattle.cv_typing_runs.specs.Games.{parameters_of}
use Rattle.cv_typing_runs.proofs.Games.{restrictions}
use Rattle.cv_typing_runs.proofs.SameSites.{branch_binders, input_binders}
use Rattle.cv_scene.specs.Scenes.{has_news_alone, is_new_head}
use Rattle.cv_steps.proofs.Flat.{open_phrase}
use Rattle.cv_rule_fresh.specs.collisions.Chances.{copies}
use Rattle.cv_rule_fresh.proofs.Listed.{bounds, choice_contained, length_tuples}
use Rattle.cv_rule_fresh.proofs.Standing.{plain_parts}
use Rattle.cv_rule_birthday_laws.specs.chosen.Drawn.{choices_of, pairs_over}
use Rattle.cv_rule_birthday_laws.proofs.chosen.Below.{news_there, parameters_there}
use Rattle.cv_rule_birthday_laws.proofs.chosen.Tuples.{choices_distinct}

-- cells that are not equal

equal_here : (c : Cell) (cs : List Cell) (t : Tape) → list_any (λ d. t c == t d) cs ≡ false → (d : Cell) → Has cs d → t c ≡ t d → ⊥
equal_here c [] t e d h s = h
equal_here c (b ∷ cs) t e d (inl h) s = both_ways (t c == t b) (or_parts (t c == t b) _ e).0 (eq-eqb (t c) (t b) (s ∙ ap t h))
equal_here c (b ∷ cs) t e d (inr h) s = equal_here c cs t (or_parts (t c == t b) _ e).1 d h s

pub one_cell : (cs : List Cell) (t : Tape) → some_equal cs t ≡ false → (c d : Cell) → Has cs c → Has cs d → t c ≡ t d → c ≡ d
one_cell [] t e c d h k s = absurd h
one_cell (b ∷ cs) t e c d (inl h) (inl k) s = h ∙ sym k
one_cell (b ∷ cs) t e c d (inl h) (inr k) s = absurd (equal_here b cs t (or_parts (list_any (λ z. t b == t z) cs) _ e).0 d k (ap t (sym h) ∙ s))
one_cell (b ∷ cs) t e c d (inr h) (inl k) s = absurd (equal_here b cs t (or_parts (list_any (λ z. t b == t z) cs) _ e).0 c h (ap t (sym k) ∙ sym s))
one_cell (b ∷ cs) t e c d (inr h) (inr k) s = one_cell cs t (or_parts (list_any (λ z. t b == t z) cs) _ e).1 c d h k s

within_parameters : (i : Interpretation) (ps w : List ℕ) → AreBelowParameters i ps w → Within w (map i.parameter_value ps)
within_parameters i [] [] h = tt
within_parameters i [] (v ∷ w) h = absurd h
within_parameters i (n ∷ ps) [] h = absurd h
within_parameters i (n ∷ ps) (v ∷ w) h = (has_below (i.parameter_value n) v h.0, within_parameters i ps w h.1)

has_mapped : (x : ℕ) (us : List (List ℕ)) (u : List ℕ) → Has us u → Has (map (New_at x) us) (New_at x u)
has_mapped x [] u h = absurd h
has_mapped x (w ∷ us) u (inl h) = inl (ap (New_at x) h)
has_mapped x (w ∷ us) u (inr h) = inr (has_mapped x us u h)

pub is_choice : (g : Setting) (x : ℕ) (ps w : List ℕ) → AreBelowParameters g.interpretation ps w → Has (choices_of g x ps) (New_at x w)
is_choice g x ps w h = has_mapped x (tuples_below (map g.interpretation.parameter_value ps)) w (within_has w (map g.interpretation.parameter_value ps) (within_parameters g.interpretation ps w h))

-- equal values stand at one tuple
pub one_tuple : (g : Setting) (x : ℕ) (ps : List ℕ) (t : Tape) → some_equal (choices_of g x ps) t ≡ false → (u w : List ℕ) → AreBelowParameters g.interpretation ps u → AreBelowParameters g.interpretation ps w → t (New_at x u) ≡ t (New_at x w) → u ≡ w
one_tuple g x ps t e u w h k s =
    let c : New_at x u ≡ New_at x w = one_cell (choices_of g x ps) t e (New_at x u) (New_at x w) (is_choice g x ps u h) (is_choice g x ps w k) s in
    cc

-- the first definition of the variable stands in the game

pub record Site (game : Tree) (x : ℕ) (sort : Sort) : Type 0 where
  pub place : ℕ
  pub phrase : Phrase
  pub above : Context
  pub head : Head
  pub one : Tree
  pub two : Tree
  pub stands : Stands game place phrase above (Node head one two)
  pub whole : is_phrase phrase (Node head one two) ≡ true
  pub here : site_here x head one ≡ Some sort

pub site_there : (game : Tree) (x : ℕ) (V : FirstSite) (ps : List ℕ) (σ : Phrase) (b : Tree) {p : ℕ} {Γ : Context} → is_phrase σ b ≡ true → Stands game p σ Γ b → first_site x ps b ≡ Some V → Site game x V.sort
unfolding first_site
site_there game x V ps σ Empty w st e = absurd (cc)
site_there game x V ps σ (Node h a b) {p = p} {Γ = Γ} w st e =
    let q = open_phrase σ h a b w in
    go (site_here x h a) refl (first_site x ps a) refl e
    (λ U f. site_there game x U ps q.0.0 a q.2 (in_first (plain_parts σ h q.0 q.1) st) f) (λ f. site_there game x V (parameters_below h ps) q.0.1 b q.3 (in_second (plain_parts σ h q.0 q.1) st) f)
  where
    go : (o : Option Sort) → site_here x h a ≡ o → (f : Option FirstSite) → first_site x ps a ≡ f → first_of (at_parameters ps o) (first_of f (first_site x (parameters_below h ps) b)) ≡ Some V
        → ((U : FirstSite) → first_site x ps a ≡ Some U → Site game x U.sort) → (first_site x (parameters_below h ps) b ≡ Some V → Site game x V.sort) → Site game x V.sort
    go (Some S) i f j k l r =
        let z : record { parameters = ps; sort = S } ≡ V = cc in
        record { place = p; phrase = σ; above = Γ; head = h; one = a; two = b; stands = st; whole = w; here = i ∙ ap (λ (v : FirstSite). Some v.sort) z }
    go None i (Some U) j k l r = let z : U ≡ V = cc in subst (λ (v : FirstSite). Site game x v.sort) z (l U j)
    go None i None j k l r = r k

-- binders that give the variable a sort bind it
bound_is : (sort : ℕ → Sort) (x : ℕ) (bs : Tree) (S : Sort) → is_phrase Binders bs ≡ true → bound_sort sort x bs ≡ Some S → is_bound bs x ≡ true
unfolding bound_sort is_bound is_phrase
bound_is sort x Empty S w e = absurd (cc)
bound_is sort x (Node (Binder y T) a b) S w e = go (y == x) refl e (bound_is sort x b S (and_parts (is_phrase Nil a) _ w).1)
  where
    go : (v : Bool) → (y == x) ≡ v → cond v (Some (sort T)) (bound_sort sort x b) ≡ Some S → (bound_sort sort x b ≡ Some S → is_bound b x ≡ true) → ((x == y) || is_bound b x) ≡ true
    go true i f k = or_left (x == y) (is_bound b x) (eq-eqb x y (sym (eqb-true y x i)))
    go false i f k = or_right (x == y) (is_bound b x) (k f)
bound_is sort x (Node h a b) S w e = absurd (both_ways false refl w)

-- so it is a `new`, where there are no others
pub record IsTyped (x : ℕ) (h : Head) (sort : Sort) : Type 0 where
  pub type : ℕ
  pub is : h ≡ New x type
  pub sorted : sort ≡ OfType type

pub site_new : (x : ℕ) (σ : Phrase) (h : Head) (a b : Tree) (S : Sort) → is_phrase σ (Node h a b) ≡ true → has_news_alone x (Node h a b) ≡ true → site_here x h a ≡ Some S → IsTyped x h S
unfolding has_news_alone
site_new x σ h a b S w n e = go h w (and_parts (is_new_head h || not (made_by h a (Variable x))) (has_news_alone x a && has_news_alone x b) n).0 e
  where
    go : (h : Head) → is_phrase σ (Node h a b) ≡ true → (is_new_head h || not (made_by h a (Variable x))) ≡ true → site_here x h a ≡ Some S → IsTyped x h S
    go (New y T) w n e = pick (y == x) refl e
      where
        pick : (v : Bool) → (y == x) ≡ v → cond v (Some (OfType T)) None ≡ Some S → IsTyped x (New y T) S
        pick true i f = record { type = T; is = ap (λ z. New z T) (eqb-true y x i); sorted = (let z : S ≡ OfType T = cc in z) }
        pick false i f = absurd (cc)
    go (Let y T) w n e = pick (y == x) refl e
      where
        pick : (v : Bool) → (y == x) ≡ v → cond v (Some (OfType T)) None ≡ Some S → IsTyped x (Let y T) S
        pick true i f = absurd (both_ways (x == y) (not-true (x == y) n) (eq-eqb x y (sym (eqb-true y x i))))
        pick false i f = absurd (cc)
    go (In c) w n e = absurd (both_ways (is_bound (second a) x) (not-true (is_bound (second a) x) n) (bound_is OfType x (second a) S (input_binders σ c a b w) e))
    go Branch w n e = absurd (both_ways (is_bound a x) (not-true (is_bound a x) n) (bound_is BelowParameter x a S (branch_binders σ a b w) e))
    go h w n e = absurd (cc)

bounds_of : (i : Interpretation) (rs : List (ℕ × ℕ)) → map i.parameter_value (parameters_of rs) ≡ map (λ (r : ℕ × ℕ). i.parameter_value r.1) rs
bounds_of i [] = refl
bounds_of i (r ∷ rs) = ap (λ ns. i.parameter_value r.1 ∷ ns) (bounds_of i rs)

-- fewer than the square
fewer : (p : Chance) (n size : ℕ) → AtMost p (birthday_bound n size) → AtMost p (record { good = n * n; all = 2 * size })
fewer p n size h =
    let l : n * (n - 1) ≤ n * n = mul-le-mul_left n (let z : n - 1 ≤ n = omega arith in z) in
    le_trans h (mul-le-mul_right p.all l)

module _ (ds : List Declaration) (i : Interpretation) (m : Mode) (a : Adversary) (game : Tree) (x type : ℕ) (V : FirstSite) (well : IsWellFormed ds game) (typed : IsTypedGame ds game) (news : has_news_alone x game ≡ true) (first : first_site x [] game ≡ Some V) (sort : V.sort ≡ OfType type) where
  abbrev g : Setting
  g = setting_of ds i

  fine : Game g (is_variable game) game
  fine = well_game ds g game refl (game_context ds game well)

  site : Site game x V.sort
  site = site_there game x V [] Inputs game well.phrase root first

  new : IsTyped x site.head V.sort
  new = site_new x site.phrase site.head site.one site.two V.sort site.whole (news_there x game news site.stands) site.here

  one_type : new.type ≡ type
  one_type = let z : OfType new.type ≡ OfType type = sym new.sorted ∙ sort in cc

  stands : Stands game site.place site.phrase site.above (Node (New x type) site.one site.two)
  stands = subst (λ (h : Head). Stands game site.place site.phrase site.above (Node h site.one site.two)) (new.is ∙ ap (New x) one_type) site.stands

  abbrev rs : List (ℕ × ℕ)
  rs = site.above.replications

  abbrev tuples : List (List ℕ)
  tuples = tuples_below (bounds g rs)

  listed : All (λ c. Contains (cells g m a game) (c, i.type_size type)) (map (New_at x) tuples)
  listed =
      All-from_recursion (λ c. Contains (cells g m a game) (c, i.type_size type)) (map (New_at x) tuples)
      (each_map_in (λ c. Contains (cells g m a game) (c, i.type_size type)) (New_at x) tuples
      (λ u h. choice_contained ds i game (is_variable game) fine (restrictions ds game typed) m a site.above x type site.one site.two u stands (ap is_some first) h))

  -- in the words of the variable's first definition
  pub choices_listed : All (λ c. Contains (cells g m a game) (c, i.type_size type)) (choices_of g x V.parameters)
  choices_listed =
      subst (λ ps. All (λ c. Contains (cells g m a game) (c, i.type_size type)) (choices_of g x ps)) (sym (parameters_there ds game well stands V first))
      (subst (λ ns. All (λ c. Contains (cells g m a game) (c, i.type_size type)) (map (New_at x) (tuples_below ns))) (sym (bounds_of i rs)) listed)

  counted : length (map (New_at x) tuples) ≡ copies i (parameters_of rs)
  counted = length-map tuples (New_at x) ∙ length_tuples i rs

  bound : AtMost (chance (cells g m a game) (some_equal (map (New_at x) tuples))) (pairs_over (parameters_of rs) type i)
  bound =
      fewer (chance (cells g m a game) (some_equal (map (New_at x) tuples))) (copies i (parameters_of rs)) (i.type_size type)
      (subst (λ n. AtMost (chance (cells g m a game) (some_equal (map (New_at x) tuples))) (birthday_bound n (i.type_size type))) counted
      (chance_some_equal (cells g m a game) (map (New_at x) tuples) (i.type_size type) (cells_distinct g m a game) (choices_distinct x (bounds g rs)) listed))

  pub rare : AtMost (chance (cells g m a game) (some_equal (choices_of g x V.parameters))) (pairs_over V.parameters type i)
  rare =
      subst (λ ps. AtMost (chance (cells g m a game) (some_equal (choices_of g x ps))) (pairs_over ps type i)) (sym (parameters_there ds game well stands V first))
      (subst (λ ns. AtMost (chance (cells g m a game) (some_equal (map (New_at x) (tuples_below ns)))) (pairs_over (parameters_of rs) type i)) (sym (bounds_of i rs)) bound)
