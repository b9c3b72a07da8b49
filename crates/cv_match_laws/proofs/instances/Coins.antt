-- A variable that is used as often as a coin of its site stands for this coin alone, and this coin for it.
use Rattle.std.proofs.Common.{◌≡◌, ℕ, zero, suc, ◌+◌, ◌<◌, Bool, true, false, cond, ◌&&◌, not, ◌==◌, List, [], ◌∷◌, ◌++◌, Option, Some, None, refl, sym, ap, ap₂, subst, ◌∙◌, eq-eqb, eqb-true, arith}
use Rattle.std.proofs.lemmas.Bool.{both_ways}
use Rattle.std.specs.List.{AllByRecursion}
use Rattle.std.specs.Prelude.{nat_eq, slice_get}
use Rattle.cv_syntax_trees.specs.Tree.{Tree, Empty, Node, first_place, second_place}
use Rattle.cv_meaning.specs.Tapes.{Key_at, Made_at, New_at}
use Rattle.cv_meaning.specs.contexts.Groups.{Group}
use Rattle.cv_syntax_trees.specs.sites.Sites.{first_of}
use Rattle.cv_scope_rules.specs.Context.{first_position, replications_below, second_position}
use Rattle.cv_scope_rules.specs.declared.position.Position.{Position}
use Rattle.cv_scope_rules.specs.declared.position.Position.TheVariants.{Anywhere}
use Rattle.cv_scene.specs.Sights.{variable_of}
use Rattle.cv_scene.specs.Instances.{Call, Matching, call_at, filled, is_read_of, names_of, terms_of}
use Rattle.cv_scene.specs.Refusals.{uses}
use Rattle.cv_scene.specs.Sites.{Site, is_guard, sites_in}
use Rattle.cv_scene.specs.LeftTerms.{HasLeftTerms}
use Rattle.cv_scene.specs.Reductions.{Reduction, matching, sites}
use Rattle.cv_scene.specs.Cells.{Coin, at_left, coin_by, coin_from, is_that_coin, made_by, made_if, variable_by, variable_from}
use Rattle.cv_match_laws.specs.instances.Calls.{IsCallAt}
use Rattle.cv_match_laws.specs.instances.Uses.{IsUsedAt, uses_outside}
use Rattle.cv_match_laws.proofs.instances.Calls.{call_found}
use Rattle.cv_match_laws.proofs.instances.Given.{Given, StandsFor, firsts, look_at, read_uses, stands_for}
use Rattle.cv_match_laws.proofs.instances.Uses.{filled_alone, filled_uses, used_there}
use Rattle.cv_syntax_trees.proofs.lists.Each.{AllByRecursion_append}

abbrev coin_at : ℕ → ℕ → Coin
coin_at z n = record { name = z; site = n }

-- coins of one site

module _ (look : ℕ → Option Tree) (body : Tree) (y : ℕ) where
  no_coin : (n : ℕ) (zs : List (ℕ × ℕ)) (ms : List Tree) → Given look body (firsts zs) ms → ((x : ℕ) (m : Tree) → look x ≡ Some m → 0 < uses x body → 0 < uses y m → ⊥) → coin_by n zs ms y ≡ None
  no_coin n [] [] h free = refl
  no_coin n (z ∷ zs) (m ∷ ms) h free = go (is_read_of y (variable_of m)) refl (no_coin n zs ms h.1 free)
    where
      go : (b : Bool) → is_read_of y (variable_of m) ≡ b → coin_by n zs ms y ≡ None → cond b (Some (coin_at z.0 n)) (coin_by n zs ms y) ≡ None
      go true e ih = absurd (free z.0 m h.0.0 h.0.1 (read_uses y m e))
      go false e ih = ih
  no_coin n [] (m ∷ ms) h free = absurd h
  no_coin n (z ∷ zs) [] h free = absurd h

  pub given_at : (zs : List (ℕ × ℕ)) (ms : List Tree) → Given look body (firsts zs) ms → (j : ℕ) (q : ℕ × ℕ) (m : Tree) → slice_get zs j ≡ Some q → slice_get ms j ≡ Some m → (look q.0 ≡ Some m) × (0 < uses q.0 body)
  given_at [] [] h j q m e f = absurd (none e)
    where
      none : ◌≡◌ {A = Option (ℕ × ℕ)} None (Some q) → ⊥
      none e = cc
  given_at (z ∷ zs) (c ∷ ms) h zero q m e f =
      let i : z.0 ≡ q.0 = same q e in
      let k : c ≡ m = cc in
      (ap look (sym i) ∙ h.0.0 ∙ ap Some k, subst (λ x. 0 < uses x body) i h.0.1)
    where
      same : (q : ℕ × ℕ) → Some z ≡ Some q → z.0 ≡ q.0
      same q e = ap (λ (o : Option (ℕ × ℕ)). elim o as (λ _. ℕ) [ None ↦ 0 | Some p ↦ p.0 ]) e
  given_at (z ∷ zs) (c ∷ ms) h (suc j) q m e f = given_at zs ms h.1 j q m e f
  given_at [] (c ∷ ms) h j q m e f = absurd h
  given_at (z ∷ zs) [] h j q m e f = absurd h

  one_coin : (n : ℕ) (zs : List (ℕ × ℕ)) (ms : List Tree) → Given look body (firsts zs) ms → (z : ℕ) → ((x : ℕ) (m : Tree) → look x ≡ Some m → 0 < uses x body → (x == z) ≡ false → 0 < uses y m → ⊥)
      → (j : ℕ) (q : ℕ × ℕ) (m : Tree) → slice_get zs j ≡ Some q → slice_get ms j ≡ Some m → is_read_of y (variable_of m) ≡ true → coin_by n zs ms y ≡ Some (coin_at z n)
  one_coin n [] [] h z alone j q m e f r = absurd (none e)
    where
      none : ◌≡◌ {A = Option (ℕ × ℕ)} None (Some q) → ⊥
      none e = cc
  one_coin n (x ∷ zs) (c ∷ ms) h z alone j q m e f r = go (λ j e f. one_coin n zs ms h.1 z alone j q m e f r) (is_read_of y (variable_of c)) refl (x.0 == z) refl j e f
    where
      go : ((j : ℕ) → slice_get zs j ≡ Some q → slice_get ms j ≡ Some m → coin_by n zs ms y ≡ Some (coin_at z n)) → (b : Bool) → is_read_of y (variable_of c) ≡ b → (a : Bool) → (x.0 == z) ≡ a → (j : ℕ) → slice_get (x ∷ zs) j ≡ Some q → slice_get (c ∷ ms) j ≡ Some m → cond b (Some (coin_at x.0 n)) (coin_by n zs ms y) ≡ Some (coin_at z n)
      go ih true i true k j e f = ap (λ z. Some (coin_at z n)) (eqb-true x.0 z k)
      go ih true i false k j e f = absurd (alone x.0 c h.0.0 h.0.1 k (read_uses y c i))
      go ih false i a k zero e f = let same : c ≡ m = cc in absurd (both_ways _ i (ap (λ t. is_read_of y (variable_of t)) same ∙ r))
      go ih false i a k (suc j) e f = ih j e f
  one_coin n [] (c ∷ ms) h z alone j q m e f r = absurd h
  one_coin n (x ∷ zs) [] h z alone j q m e f r = absurd h

  one_variable : (zs : List (ℕ × ℕ)) (ms : List Tree) → Given look body (firsts zs) ms → (z : ℕ) (m : Tree) → look z ≡ Some m → (j : ℕ) (q : ℕ × ℕ) → slice_get zs j ≡ Some q → q.0 ≡ z → variable_by zs ms z ≡ variable_of m
  one_variable [] [] h z m l j q e f = absurd (none e)
    where
      none : ◌≡◌ {A = Option (ℕ × ℕ)} None (Some q) → ⊥
      none e = cc
  one_variable (x ∷ zs) (c ∷ ms) h z m l j q e f = go (λ j e. one_variable zs ms h.1 z m l j q e f) (x.0 == z) refl j e
    where
      same : (q : ℕ × ℕ) → Some x ≡ Some q → x.0 ≡ q.0
      same q e = ap (λ (o : Option (ℕ × ℕ)). elim o as (λ _. ℕ) [ None ↦ 0 | Some p ↦ p.0 ]) e

      go : ((j : ℕ) → slice_get zs j ≡ Some q → variable_by zs ms z ≡ variable_of m) → (b : Bool) → (x.0 == z) ≡ b → (j : ℕ) → slice_get (x ∷ zs) j ≡ Some q → cond b (variable_of c) (variable_by zs ms z) ≡ variable_of m
      go ih true i j e =
          let k : Some c ≡ Some m = sym h.0.0 ∙ ap look (eqb-true x.0 z i) ∙ l in
          let t : c ≡ m = cc in
          ap variable_of t
      go ih false i zero e = absurd (both_ways _ i (eq-eqb x.0 z (same q e ∙ f)))
      go ih false i (suc j) e = ih j e
  one_variable [] (c ∷ ms) h z m l j q e f = absurd h
  one_variable (x ∷ zs) [] h z m l j q e f = absurd h

-- coins of all sites

no_coins : (n y : ℕ) (ss : List Site) → ((k : ℕ) (s : Site) → slice_get ss k ≡ Some s → (n : ℕ) → coin_by n s.call.function.coins s.call.instance.coins y ≡ None) → coin_from n ss y ≡ None
no_coins n y [] h = refl
no_coins n y (c ∷ ss) h = ap (λ o. first_of o (coin_from (suc n) ss y)) (h 0 c refl n) ∙ no_coins (suc n) y ss (λ k s e. h (suc k) s e)

one_of_coins : (n y l z k : ℕ) (ss : List Site) (s : Site) → slice_get ss k ≡ Some s → l ≡ n + k → ((n : ℕ) → coin_by n s.call.function.coins s.call.instance.coins y ≡ Some (coin_at z n))
    → ((j : ℕ) (c : Site) → slice_get ss j ≡ Some c → (j ≡ k → ⊥) → (n : ℕ) → coin_by n c.call.function.coins c.call.instance.coins y ≡ None) → coin_from n ss y ≡ Some (coin_at z l)
one_of_coins n y l z k [] s e i here others = absurd (none e)
  where
    none : ◌≡◌ {A = Option Site} None (Some s) → ⊥
    none e = cc
one_of_coins n y l z zero (c ∷ ss) s e i here others =
    let same : s ≡ c = cc in
    let number : n ≡ l = omega arith in
    ap (λ o. first_of o (coin_from (suc n) ss y)) (subst (λ (d : Site). coin_by n d.call.function.coins d.call.instance.coins y ≡ Some (coin_at z n)) same (here n)) ∙ ap (λ q. Some (coin_at z q)) number
one_of_coins n y l z (suc k) (c ∷ ss) s e i here others =
    ap (λ o. first_of o (coin_from (suc n) ss y)) (others 0 c refl (λ (d : 0 ≡ suc k). absurd (let no : ⊥ = omega arith in no)) n)
    ∙ one_of_coins (suc n) y l z k ss s e (omega arith) here (λ j c f d. others (suc j) c f (λ (q : suc j ≡ suc k). d (omega arith)))

one_of_variables : (n l z k : ℕ) (ss : List Site) (s : Site) → slice_get ss k ≡ Some s → l ≡ n + k → variable_from n ss (coin_at z l) ≡ variable_by s.call.function.coins s.call.instance.coins z
one_of_variables n l z k [] s e i = absurd (none e)
  where
    none : ◌≡◌ {A = Option Site} None (Some s) → ⊥
    none e = cc
one_of_variables n l z zero (c ∷ ss) s e i =
    let same : c ≡ s = cc in
    ap (λ b. cond b (variable_by c.call.function.coins c.call.instance.coins z) (variable_from (suc n) ss (coin_at z l))) (eq-eqb n l (omega arith)) ∙ ap (λ (d : Site). variable_by d.call.function.coins d.call.instance.coins z) same
one_of_variables n l z (suc k) (c ∷ ss) s e i =
    ap (λ b. cond b (variable_by c.call.function.coins c.call.instance.coins z) (variable_from (suc n) ss (coin_at z l))) (let f : (n == l) ≡ false = grind arith in f) ∙ one_of_variables (suc n) l z k ss s e (omega arith)

-- each site has what is found at its term

sites_called : (M : Matching) (w : Position) (rs : List (ℕ × ℕ)) (p : ℕ) (t : Tree) → AllByRecursion (λ (s : Site). call_at M s.term ≡ Some s.call) (sites_in M w rs p t)
unfolding sites_in
sites_called M w rs p Empty = tt
sites_called M w rs p (Node h a b) =
    go (call_at M (Node h a b)) refl (is_guard w) (sites_called M (first_position w h) rs (first_place p h) a) (sites_called M (second_position w h) (replications_below h rs) (second_place p h a) b)
  where
    P : Site → Type 0
    P s = call_at M s.term ≡ Some s.call

    go : (o : Option Call) → call_at M (Node h a b) ≡ o → (z : Bool) → AllByRecursion (λ (s : Site). call_at M s.term ≡ Some s.call) (sites_in M (first_position w h) rs (first_place p h) a) → AllByRecursion (λ (s : Site). call_at M s.term ≡ Some s.call) (sites_in M (second_position w h) (replications_below h rs) (second_place p h a) b)
        → AllByRecursion (λ (s : Site). call_at M s.term ≡ Some s.call) (elim o as (λ _. List Site) [
          | Some c ↦ record { place = p; term = Node h a b; replications = rs; call = c } ∷ []
          | None ↦ cond z [] (sites_in M (first_position w h) rs (first_place p h) a) ++ sites_in M (second_position w h) (replications_below h rs) (second_place p h a) b
        ])
    go (Some c) e z f g = (e, tt)
    go None e true f g = g
    go None e false f g = AllByRecursion_append (λ (s : Site). call_at M s.term ≡ Some s.call) (sites_in M (first_position w h) rs (first_place p h) a) (sites_in M (second_position w h) (replications_below h rs) (second_place p h a) b) f g

one_called : (M : Matching) (ss : List Site) (k : ℕ) (s : Site) → AllByRecursion (λ (s : Site). call_at M s.term ≡ Some s.call) ss → slice_get ss k ≡ Some s → call_at M s.term ≡ Some s.call
one_called M [] k s h e = absurd (none e)
  where
    none : ◌≡◌ {A = Option Site} None (Some s) → ⊥
    none e = cc
one_called M (c ∷ ss) zero s h e = let same : c ≡ s = cc in subst (λ (s : Site). call_at M s.term ≡ Some s.call) same h.0
one_called M (c ∷ ss) (suc k) s h e = one_called M ss k s h.1 e

-- the cell of a coin

module _ (r : Reduction) (left : HasLeftTerms r.scene.declarations (matching r).group) where
  abbrev G : Group
  G = (matching r).group

  pub site_call : (k : ℕ) (s : Site) → slice_get (sites r) k ≡ Some s → IsCallAt r.scene.declarations (matching r) s.term s.call
  site_call k s e = call_found r.scene.declarations (matching r) s.term s.call left (one_called (matching r) (sites r) k s (sites_called (matching r) Anywhere [] 0 r.scene.game) e)

  abbrev look : Site → ℕ → Option Tree
  look s = look_at G s.call.function s.call.instance

  pub site_given : (k : ℕ) (s : Site) → slice_get (sites r) k ≡ Some s → StandsFor G s.call.function s.call.instance
  site_given k s e =
      let c = site_call k s e in
      stands_for r.scene.declarations (matching r) s.call.function s.call.instance c.left c.instance.coins c.instance.arguments

  module _ (number j : ℕ) (s : Site) (q : ℕ × ℕ) (m : Tree) (y : ℕ) (at : slice_get (sites r) number ≡ Some s) (coin : slice_get s.call.function.coins j ≡ Some q) (term : slice_get s.call.instance.coins j ≡ Some m)
      (variable : variable_of m ≡ Some y) (count : uses y r.scene.game ≡ uses q.0 s.call.function.body) where
    reads : is_read_of y (variable_of m) ≡ true
    reads = ap (is_read_of y) variable ∙ eq-eqb y y refl

    here : (look s q.0 ≡ Some m) × (0 < uses q.0 s.call.function.body)
    here = given_at (look s) s.call.function.body y s.call.function.coins s.call.instance.coins (site_given number s at).coins j q m coin term

    abbrev pub There : Type 0
    There = (uses_outside (matching r) Anywhere y r.scene.game ≡ 0) × IsUsedAt y number (sites r) × (uses y s.term ≡ uses q.0 s.call.function.body)

    pub there : There
    there =
        let c = site_call number s at in
        used_there (matching r) Anywhere [] 0 r.scene.game y q.0 number s (names_of G s.call.function) (terms_of s.call.instance) m s.call.function.body at c.instance.body here.0 (read_uses y m reads) c.left.term c.left.plain count

    pub alone : (x : ℕ) (other : Tree) → look s x ≡ Some other → 0 < uses x s.call.function.body → (x == q.0) ≡ false → 0 < uses y other → ⊥
    alone x other l u d v =
        let c = site_call number s at in
        let few : uses y (filled G s.call.function s.call.instance) ≡ uses q.0 s.call.function.body = ap (uses y) c.instance.body ∙ there.2 in
        let none = filled_alone (names_of G s.call.function) (terms_of s.call.instance) q.0 y m here.0 (read_uses y m reads) x other d l s.call.function.body c.left.term c.left.plain u (omega arith) in
        omega arith

    elsewhere : (k : ℕ) (c : Site) → slice_get (sites r) k ≡ Some c → (k ≡ number → ⊥) → (n : ℕ) → coin_by n c.call.function.coins c.call.instance.coins y ≡ None
    elsewhere k c e d n =
        let h = site_call k c e in
        let none : uses y (filled G c.call.function c.call.instance) ≡ 0 = ap (uses y) h.instance.body ∙ there.1.others k c e d in
        no_coin (look c) c.call.function.body y n c.call.function.coins c.call.instance.coins (site_given k c e).coins
        (λ x o l u v. let more = filled_uses (names_of G c.call.function) (terms_of c.call.instance) x y o l v c.call.function.body h.left.term h.left.plain in omega arith)

    pub the_coin : coin_from 0 (sites r) y ≡ Some (coin_at q.0 number)
    the_coin =
        one_of_coins 0 y number q.0 number (sites r) s at (omega arith)
        (λ n. one_coin (look s) s.call.function.body y n s.call.function.coins s.call.instance.coins (site_given number s at).coins q.0 alone j q m coin term reads)
        elsewhere

    pub the_variable : variable_from 0 (sites r) (coin_at q.0 number) ≡ Some y
    the_variable =
        one_of_variables 0 number q.0 number (sites r) s at (omega arith)
        ∙ one_variable (look s) s.call.function.body y s.call.function.coins s.call.instance.coins (site_given number s at).coins q.0 m here.0 j q coin refl
        ∙ variable

    coin_apart : (zs xs : List (ℕ × ℕ)) (j : ℕ) → AllByRecursion (λ x. AllByRecursion (λ y. nat_eq x y ≡ false) (G.key.0 ∷ [])) (firsts (zs ++ xs)) → slice_get zs j ≡ Some q → nat_eq q.0 G.key.0 ≡ false
    coin_apart [] xs j h e = absurd (none e)
      where
        none : ◌≡◌ {A = Option (ℕ × ℕ)} None (Some q) → ⊥
        none e = cc
    coin_apart (z ∷ zs) xs zero h e = ap (λ (o : Option (ℕ × ℕ)). elim o as (λ _. Bool) [ None ↦ false | Some p ↦ nat_eq p.0 G.key.0 ]) (sym e) ∙ h.0.0
    coin_apart (z ∷ zs) xs (suc j) h e = coin_apart zs xs j h.1 e

    pub not_key : (y == r.key) ≡ false
    not_key = go (y == r.key) refl
      where
        go : (b : Bool) → (y == r.key) ≡ b → b ≡ false
        go false e = refl
        go true e =
            let g = site_given number s at in
            let c = site_call number s at in
            let d : (q.0 == G.key.0) ≡ false = coin_apart s.call.function.coins s.call.function.arguments j g.apart coin in
            let k : is_read_of y (variable_of s.call.instance.key) ≡ true = subst (λ x. is_read_of x (variable_of s.call.instance.key) ≡ true) (sym (eqb-true y r.key e)) c.instance.key in
            absurd (alone G.key.0 s.call.instance.key g.key g.key_read (swapped q.0 G.key.0 d) (read_uses y s.call.instance.key k))
          where
            swapped : (a b : ℕ) → (a == b) ≡ false → (b == a) ≡ false
            swapped a b d = grind arith

    pub coin_cell : (w : List ℕ) → at_left r (New_at y w) ≡ Made_at q.0 w number
    coin_cell w =
        ap (λ b. cond b (Key_at w) (made_by r y w (coin_from 0 (sites r) y))) not_key
        ∙ ap (made_by r y w) the_coin
        ∙ ap (λ b. made_if b y w (coin_at q.0 number)) paired
      where
        paired : (not (y == r.key) && (is_read_of y (variable_from 0 (sites r) (coin_at q.0 number)) && is_that_coin (coin_at q.0 number) (coin_from 0 (sites r) y))) ≡ true
        paired = ap₂ (λ a b. not a && b) not_key (ap₂ ◌&&◌ (ap (is_read_of y) the_variable ∙ eq-eqb y y refl) (ap (is_that_coin (coin_at q.0 number)) the_coin ∙ ap₂ ◌&&◌ (eq-eqb q.0 q.0 refl) (eq-eqb number number refl)))
