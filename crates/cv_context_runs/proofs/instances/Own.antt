-- In a game without a refusal coins and answers are used nowhere else, so what stands for arguments reads plain names alone.
use Rattle.std.proofs.Common.{◌≡◌, ℕ, zero, suc, ◌+◌, ◌<◌, Bool, true, false, cond, ◌&&◌, ◌||◌, not, ◌==◌, List, [], ◌∷◌, ◌++◌, length, Option, Some, None, is_some, refl, sym, ap, ap₂, subst, ◌∙◌, eq-eqb, eqb-true, arith}
use Rattle.std.proofs.lemmas.Bool.{both_ways, and_parts, eqb-false, not-true}
use Rattle.std.specs.List.{AllByRecursion, list_any}
use Rattle.std.specs.Prelude.{nat_eq, slice_get}
use Rattle.cv_syntax_trees.specs.Tree.{Tree, Empty, Node, chain, first, reads_only, same_tree}
use Rattle.cv_scope_rules.specs.Context.{cell_of}
use Rattle.cv_scope_rules.specs.Phrases.{IsWellFormed}
use Rattle.cv_scope_rules.specs.declared.position.Position.TheVariants.{Anywhere}
use Rattle.cv_scene.specs.Scenes.{head_reads, is_queried}
use Rattle.cv_scene.specs.Sights.{variable_of}
use Rattle.cv_scene.specs.Instances.{Matching, are_of_types, filled, is_argument_of, is_coin_of, is_read_of, names_of, terms_of}
use Rattle.cv_scene.specs.Refusals as refusals
use Rattle.cv_scene.specs.Refusals.{are_coins, first_argument_use, first_coin_use, first_in_arguments, new_of, stands_under, uses}
use Rattle.cv_scene.specs.Sites.{Site}
use Rattle.cv_scene.specs.Contexts.{AreAnswers}
use Rattle.cv_scene.specs.LeftTerms.{HasLeftTerms}
use Rattle.cv_scene.specs.Reductions.{Reduction, is_answer, is_coin, is_plain, matching, sites}
use Rattle.cv_scene.specs.Apt.{IsSiteApt}
use Rattle.cv_match_laws.specs.instances.Uses.{IsUsedAt, uses_outside}
use Rattle.cv_match_laws.proofs.names.Plain.{not_plain, one_below}
use Rattle.cv_match_laws.proofs.instances.Coins.{alone, given_at, not_key, site_call, site_given, there}
use Rattle.cv_match_laws.proofs.instances.Given.{firsts, look_at, read_uses}
use Rattle.cv_match_laws.proofs.instances.Uses.{filled_uses, one_site, uses_apart}
use Rattle.cv_context_runs.proofs.instances.Arguments.{argument_free, both_none}
use Rattle.cv_context_runs.proofs.instances.Outside.{head_plain, unnamed_unused}
use Rattle.cv_context_runs.proofs.instances.Sites.{any_at, own_coins, read_is, site_apt}
use Rattle.cv_syntax_trees.proofs.lists.Options.{none_some}

-- what is found in a list

record FoundAt (A : Type 0) (p : A → Bool) (xs : List A) : Type 0 where
  index : ℕ
  item : A
  at : slice_get xs index ≡ Some item
  holds : p item ≡ true

found_at : (A : Type 0) (p : A → Bool) (xs : List A) → list_any p xs ≡ true → FoundAt A p xs
found_at A p [] e = absurd (both_ways false refl e)
found_at A p (x ∷ xs) e = go (p x) refl e (found_at A p xs)
  where
    go : (b : Bool) → p x ≡ b → (b || list_any p xs) ≡ true → (list_any p xs ≡ true → FoundAt A p xs) → FoundAt A p (x ∷ xs)
    go true i e ih = record { index = 0; item = x; at = refl; holds = i }
    go false i e ih = let q = ih e in record { index = suc q.index; item = q.item; at = q.at; holds = q.holds }

record NameAt (zs : List (ℕ × ℕ)) (j : ℕ) : Type 0 where
  name : ℕ × ℕ
  at : slice_get zs j ≡ Some name

name_at : (may_be : ℕ → Tree → Bool) (zs : List (ℕ × ℕ)) (ms : List Tree) → are_of_types may_be zs ms ≡ true → (j : ℕ) (m : Tree) → slice_get ms j ≡ Some m → NameAt zs j
name_at may_be [] [] e j m f = absurd (none_some m f)
name_at may_be (z ∷ zs) (c ∷ ms) e zero m f = record { name = z; at = refl }
name_at may_be (z ∷ zs) (c ∷ ms) e (suc j) m f = let n = name_at may_be zs ms (and_parts (may_be z.1 c) (are_of_types may_be zs ms) e).1 j m f in record { name = n.name; at = n.at }
name_at may_be [] (c ∷ ms) e j m f = absurd (both_ways false refl e)
name_at may_be (z ∷ zs) [] e j m f = absurd (both_ways false refl e)

own_at : (M : Matching) (s : Site) (zs : List (ℕ × ℕ)) (ms : List Tree) → are_coins M s zs ms ≡ true → (j : ℕ) (q : ℕ × ℕ) (m : Tree) → slice_get zs j ≡ Some q → slice_get ms j ≡ Some m → refusals.is_coin M s q.0 m (variable_of m) ≡ true
own_at M s [] ms h j q m e f = absurd (none_some q e)
own_at M s (z ∷ zs) [] h j q m e f = absurd (none_some m f)
own_at M s (z ∷ zs) (c ∷ ms) h zero q m e f =
    let same : c ≡ m = cc in
    subst (λ t. refusals.is_coin M s q.0 t (variable_of t) ≡ true) same (subst (λ n. refusals.is_coin M s n c (variable_of c) ≡ true) (name q e) (and_parts (refusals.is_coin M s z.0 c (variable_of c)) _ h).0)
  where
    name : (q : ℕ × ℕ) → Some z ≡ Some q → z.0 ≡ q.0
    name q e = ap (λ (o : Option (ℕ × ℕ)). elim o as (λ _. ℕ) [ None ↦ 0 | Some p ↦ p.0 ]) e
own_at M s (z ∷ zs) (c ∷ ms) h (suc j) q m e f = own_at M s zs ms (and_parts (refusals.is_coin M s z.0 c (variable_of c)) _ h).1 j q m e f

all_at : (P : ℕ → Type 0) (xs : List (ℕ × ℕ)) (i : ℕ) (a : ℕ × ℕ) → AllByRecursion P (firsts xs) → slice_get xs i ≡ Some a → P a.0
all_at P [] i a h e = absurd (none_some a e)
all_at P (x ∷ xs) zero a h e = subst P (ap (λ (o : Option (ℕ × ℕ)). elim o as (λ _. ℕ) [ None ↦ 0 | Some p ↦ p.0 ]) e) h.0
all_at P (x ∷ xs) (suc i) a h e = all_at P xs i a h.1 e

all_left : (P : ℕ → Type 0) (zs xs : List (ℕ × ℕ)) → AllByRecursion P (firsts (zs ++ xs)) → AllByRecursion P (firsts zs)
all_left P [] xs h = tt
all_left P (z ∷ zs) xs h = (h.0, all_left P zs xs h.1)

zero_if : (n : ℕ) → (0 < n → ⊥) → n ≡ 0
zero_if zero f = refl
zero_if (suc n) f = absurd (f (omega arith))

-- a tree that uses plain names alone reads them alone
pub unused_unread : (on : ℕ → Bool) (t : Tree) → ((x : ℕ) → on x ≡ false → uses x t ≡ 0) → reads_only on t ≡ true
unfolding uses reads_only
unused_unread on Empty f = refl
unused_unread on (Node h a b) f =
    ap₂ ◌&&◌ (head_plain on h (λ x e. first_zero (cond (head_reads x h) 1 0) (uses x a + uses x b) (f x e)))
    (ap₂ ◌&&◌ (unused_unread on a (λ x e. first_zero (uses x a) (uses x b) (second_zero (cond (head_reads x h) 1 0) (uses x a + uses x b) (f x e))))
    (unused_unread on b (λ x e. second_zero (uses x a) (uses x b) (second_zero (cond (head_reads x h) 1 0) (uses x a + uses x b) (f x e)))))
  where
    first_zero : (m n : ℕ) → m + n ≡ 0 → m ≡ 0
    first_zero m n e = omega arith

    second_zero : (m n : ℕ) → m + n ≡ 0 → n ≡ 0
    second_zero m n e = omega arith

first_unused : (x : ℕ) (t : Tree) → uses x t ≡ 0 → uses x (first t) ≡ 0
unfolding uses
first_unused x Empty e = e
first_unused x (Node h a b) e = omega arith

all_read : (on : ℕ → Bool) (zs : List (ℕ × ℕ)) (ms : List Tree) (may_be : ℕ → Tree → Bool) → are_of_types may_be zs ms ≡ true → ((i : ℕ) (a : ℕ × ℕ) (o : Tree) → slice_get zs i ≡ Some a → slice_get ms i ≡ Some o → reads_only on o ≡ true) → reads_only on (chain ms) ≡ true
unfolding reads_only
all_read on [] [] may_be e h = refl
all_read on (z ∷ zs) (m ∷ ms) may_be e h =
    ap₂ ◌&&◌ (h 0 z m refl refl) (all_read on zs ms may_be (and_parts (may_be z.1 m) (are_of_types may_be zs ms) e).1 (λ i a o f g. h (suc i) a o f g))
all_read on [] (m ∷ ms) may_be e h = absurd (both_ways false refl e)
all_read on (z ∷ zs) [] may_be e h = absurd (both_ways false refl e)

free_arguments : (M : Matching) (ss : List Site) (k : ℕ) (s : Site) → first_argument_use M ss ≡ None → slice_get ss k ≡ Some s → first_in_arguments M.key s.call.function.arguments s.call.function.body s.place s.term ≡ None
free_arguments M [] k s f e = absurd (none_some s e)
free_arguments M (c ∷ ss) zero s f e = let same : c ≡ s = cc in subst (λ (d : Site). first_in_arguments M.key d.call.function.arguments d.call.function.body d.place d.term ≡ None) same (both_none (first_in_arguments M.key c.call.function.arguments c.call.function.body c.place c.term) (first_argument_use M ss) f).0
free_arguments M (c ∷ ss) (suc k) s f e = free_arguments M ss k s (both_none (first_in_arguments M.key c.call.function.arguments c.call.function.body c.place c.term) (first_argument_use M ss) f).1 e

-- what is tested of a coin's variable

record IsTested (r : Reduction) (y : ℕ) (s : Site) (z : ℕ) : Type 0 where
  chosen : is_some (new_of r.scene.game y) ≡ true
  unasked : is_queried r.scene y ≡ false
  count : uses y r.scene.game ≡ uses z s.call.function.body

tested : (r : Reduction) (y : ℕ) (s : Site) (z : ℕ) (m : Tree) → refusals.is_coin (matching r) s z m (Some y) ≡ true → IsTested r y s z
tested r y s z m h =
    let p = and_parts (stands_under s.replications (new_of r.scene.game y)) _ h in
    let w = and_parts (same_tree m (cell_of s.replications y)) _ p.1 in
    let u = and_parts (not (is_queried r.scene y)) _ w.1 in
    record { chosen = stands (new_of r.scene.game y) p.0; unasked = not-true (is_queried r.scene y) u.0; count = eqb-true (uses y r.scene.game) (uses z s.call.function.body) u.1 }
  where
    stands : (o : Option (ℕ × List (ℕ × ℕ))) → stands_under s.replications o ≡ true → is_some o ≡ true
    stands None e = e
    stands (Some d) e = refl

-- the site of a coin's variable

record CoinSite (r : Reduction) (y : ℕ) : Type 0 where
  number : ℕ
  site : Site
  at : slice_get (sites r) number ≡ Some site
  index : ℕ
  coin : ℕ × ℕ
  term : Tree
  coin_at : slice_get site.call.function.coins index ≡ Some coin
  term_at : slice_get site.call.instance.coins index ≡ Some term
  variable : variable_of term ≡ Some y
  chosen : is_some (new_of r.scene.game y) ≡ true
  unasked : is_queried r.scene y ≡ false
  count : uses y r.scene.game ≡ uses coin.0 site.call.function.body

module _ (r : Reduction) (left : HasLeftTerms r.scene.declarations (matching r).group) (coins : first_coin_use (matching r) (sites r) ≡ None) where
  coin_site : (y : ℕ) → is_coin r y ≡ true → CoinSite r y
  coin_site y e =
      let f : FoundAt Site (λ (s : Site). list_any (λ m. is_read_of y (variable_of m)) s.call.instance.coins) (sites r) = found_at Site (λ (s : Site). list_any (λ m. is_read_of y (variable_of m)) s.call.instance.coins) (sites r) e in
      let g : FoundAt Tree (λ m. is_read_of y (variable_of m)) f.item.call.instance.coins = found_at Tree (λ m. is_read_of y (variable_of m)) f.item.call.instance.coins f.holds in
      let n = name_at (is_coin_of (matching r)) f.item.call.function.coins f.item.call.instance.coins (site_call r left f.index f.item f.at).instance.coins g.index g.item g.at in
      let v : variable_of g.item ≡ Some y = read_is y (variable_of g.item) g.holds in
      let test : IsTested r y f.item n.name.0 = tested r y f.item n.name.0 g.item (subst (λ o. refusals.is_coin (matching r) f.item n.name.0 g.item o ≡ true) v (own_at (matching r) f.item f.item.call.function.coins f.item.call.instance.coins (own_coins (matching r) (sites r) f.index f.item coins f.at) g.index n.name g.item n.at g.at)) in
      record {
        number = f.index;
        site = f.item;
        at = f.at;
        index = g.index;
        coin = n.name;
        term = g.item;
        coin_at = n.at;
        term_at = g.at;
        variable = v;
        chosen = test.chosen;
        unasked = test.unasked;
        count = test.count;
      }

  coin_there : (y : ℕ) (c : CoinSite r y) → (uses_outside (matching r) Anywhere y r.scene.game ≡ 0) × IsUsedAt y c.number (sites r) × (uses y c.site.term ≡ uses c.coin.0 c.site.call.function.body)
  coin_there y c = there r left c.number c.index c.site c.coin c.term y c.at c.coin_at c.term_at c.variable c.count

  pub coin_chosen : (y : ℕ) → is_coin r y ≡ true → is_some (new_of r.scene.game y) ≡ true
  coin_chosen y e = (coin_site y e).chosen

  pub coin_unasked : (y : ℕ) → is_coin r y ≡ true → is_queried r.scene y ≡ false
  coin_unasked y e = (coin_site y e).unasked

  pub unused_outside : (y : ℕ) → is_coin r y ≡ true → uses_outside (matching r) Anywhere y r.scene.game ≡ 0
  unused_outside y e = (coin_there y (coin_site y e)).0

  pub key_no_coin : is_coin r r.key ≡ false
  key_no_coin = go (is_coin r r.key) refl
    where
      go : (b : Bool) → is_coin r r.key ≡ b → b ≡ false
      go false e = refl
      go true e =
          let c = coin_site r.key e in
          absurd (both_ways _ (not_key r left c.number c.index c.site c.coin c.term r.key c.at c.coin_at c.term_at c.variable c.count) (eq-eqb r.key r.key refl))

  -- a term for a name of a site that is no coin's

  abbrev StandsAt : ℕ → Tree → Site → Type 0
  StandsAt x o d = (look_at (matching r).group d.call.function d.call.instance x ≡ Some o) × (0 < uses x d.call.function.body) × ((j : ℕ) (q : ℕ × ℕ) → slice_get d.call.function.coins j ≡ Some q → (x == q.0) ≡ false)

  module _ (k : ℕ) (s : Site) (at : slice_get (sites r) k ≡ Some s) (x : ℕ) (o : Tree) (stands : StandsAt x o s) where
    -- what the term of the site doesn't use, that for a name doesn't
    within : (y : ℕ) → uses y s.term ≡ 0 → uses y o ≡ 0
    within y e =
        let c = site_call r left k s at in
        let none : uses y (filled (matching r).group s.call.function s.call.instance) ≡ 0 = ap (uses y) c.instance.body ∙ e in
        let u : 0 < uses x s.call.function.body = stands.1 in
        zero_if (uses y o) (λ l. let more = filled_uses (names_of (matching r).group s.call.function) (terms_of s.call.instance) x y o stands.0 l s.call.function.body c.left.term c.left.plain in omega arith)

    of_answers : AreAnswers r.scene (length (sites r)) r.answer → (j : ℕ) → j < length (sites r) → uses (r.answer j) o ≡ 0
    of_answers answers j l =
        let none = unnamed_unused (r.answer j) r.scene.game (answers.unnamed j l) in
        let split = uses_apart (matching r) Anywhere [] 0 (r.answer j) r.scene.game in
        let one = one_site (r.answer j) (sites r) k s at in
        within (r.answer j) (omega arith)

    of_coins : (y : ℕ) → is_coin r y ≡ true → uses y o ≡ 0
    of_coins y e = go (coin_site y e)
      where
        here : (c : CoinSite r y) → StandsAt x o c.site → uses y o ≡ 0
        here c g = zero_if (uses y o) (λ l. alone r left c.number c.index c.site c.coin c.term y c.at c.coin_at c.term_at c.variable c.count x o g.0 g.1 (g.2 c.index c.coin c.coin_at) l)

        go : CoinSite r y → uses y o ≡ 0
        go c = at_number (k == c.number) refl
          where
            at_number : (b : Bool) → (k == c.number) ≡ b → uses y o ≡ 0
            at_number true f =
                let found : Some c.site ≡ Some s = sym c.at ∙ ap (slice_get (sites r)) (sym (eqb-true k c.number f)) ∙ at in
                let same : s ≡ c.site = cc in
                here c (subst (StandsAt x o) same stands)
            at_number false f = within y ((coin_there y c).1.others k s at (eqb-false k c.number f))

  module _ (k : ℕ) (s : Site) (at : slice_get (sites r) k ≡ Some s) where
    argument_stands : (i : ℕ) (a : ℕ × ℕ) (o : Tree) → slice_get s.call.function.arguments i ≡ Some a → slice_get s.call.instance.arguments i ≡ Some o → StandsAt a.0 o s
    argument_stands i a o name term =
        let g = site_given r left k s at in
        let here = given_at (look_at (matching r).group s.call.function s.call.instance) s.call.function.body 0 s.call.function.arguments s.call.instance.arguments g.arguments i a o name term in
        let apart = all_at (λ x. AllByRecursion (λ z. nat_eq x z ≡ false) (firsts s.call.function.coins)) s.call.function.arguments i a g.crossed name in
        (here.0, here.1, λ j q e. all_at (λ z. nat_eq a.0 z ≡ false) s.call.function.coins j q apart e)

    key_stands : StandsAt (matching r).group.key.0 s.call.instance.key s
    key_stands =
        let g = site_given r left k s at in
        (g.key, g.key_read, λ j q e. swapped q.0 (matching r).group.key.0 (all_at (λ x. AllByRecursion (λ y. nat_eq x y ≡ false) ((matching r).group.key.0 ∷ [])) s.call.function.coins j q (all_left (λ x. AllByRecursion (λ y. nat_eq x y ≡ false) ((matching r).group.key.0 ∷ [])) s.call.function.coins s.call.function.arguments g.apart) e).0)
      where
        swapped : (a b : ℕ) → (a == b) ≡ false → (b == a) ≡ false
        swapped a b d = grind arith

    of_key : (i : ℕ) (a : ℕ × ℕ) (o : Tree) → slice_get s.call.function.arguments i ≡ Some a → slice_get s.call.instance.arguments i ≡ Some o → first_argument_use (matching r) (sites r) ≡ None → uses r.key o ≡ 0
    of_key i a o name term free =
        let c = site_call r left k s at in
        let g = argument_stands i a o name term in
        argument_free r.key s.call.function.arguments (names_of (matching r).group s.call.function) (terms_of s.call.instance) a.0 o g.0
        (any_at (λ (x : ℕ × ℕ). x.0 == a.0) s.call.function.arguments i a name (eq-eqb a.0 a.0 refl))
        s.call.function.body c.left.term c.left.plain s.place g.1
        (subst (λ t. first_in_arguments r.key s.call.function.arguments s.call.function.body s.place t ≡ None) (sym c.instance.body) (free_arguments (matching r) (sites r) k s free at))

    pub arguments_plain : first_argument_use (matching r) (sites r) ≡ None → AreAnswers r.scene (length (sites r)) r.answer → reads_only (is_plain r) (chain s.call.instance.arguments) ≡ true
    arguments_plain free answers =
        all_read (is_plain r) s.call.function.arguments s.call.instance.arguments (is_argument_of (matching r)) (site_call r left k s at).instance.arguments
        (λ i a o name term. let g = argument_stands i a o name term in
        unused_unread (is_plain r) o (not_plain r (λ x. uses x o ≡ 0) (of_key i a o name term free) (of_coins k s at a.0 o g) (of_answers k s at a.0 o g answers)))

    pub indices_plain : uses r.key (first s.call.instance.key) ≡ 0 → AreAnswers r.scene (length (sites r)) r.answer → reads_only (is_plain r) (first s.call.instance.key) ≡ true
    indices_plain none answers =
        unused_unread (is_plain r) (first s.call.instance.key) (not_plain r (λ x. uses x (first s.call.instance.key) ≡ 0) none
        (λ y e. first_unused y s.call.instance.key (of_coins k s at (matching r).group.key.0 s.call.instance.key key_stands y e))
        (λ j l. first_unused (r.answer j) s.call.instance.key (of_answers k s at (matching r).group.key.0 s.call.instance.key key_stands answers j l)))

    pub site_without_refusal : IsWellFormed r.scene.declarations r.scene.game → first_argument_use (matching r) (sites r) ≡ None → AreAnswers r.scene (length (sites r)) r.answer → uses r.key (first s.call.instance.key) ≡ 0 → IsSiteApt r s.replications k s
    site_without_refusal formed free answers none = site_apt r left formed k s at coins (indices_plain none answers) (arguments_plain free answers)

  get_some : (ss : List Site) (k : ℕ) → k < length ss → (s : Site) × (slice_get ss k ≡ Some s)
  get_some [] k l = absurd (omega arith)
  get_some (s ∷ ss) zero l = (s, refl)
  get_some (s ∷ ss) (suc k) l = get_some ss k (omega arith)

  -- each site reads the key, so no answer is the key
  pub key_no_answer : AreAnswers r.scene (length (sites r)) r.answer → is_answer r r.key ≡ false
  key_no_answer answers = go (is_answer r r.key) refl
    where
      go : (b : Bool) → is_answer r r.key ≡ b → b ≡ false
      go false e = refl
      go true e =
          let q = one_below (λ k. r.answer k == r.key) (length (sites r)) e in
          let g = get_some (sites r) q.number q.less in
          let c = site_call r left q.number g.0 g.1 in
          let none : uses (r.answer q.number) g.0.call.instance.key ≡ 0 = of_answers q.number g.0 g.1 (matching r).group.key.0 g.0.call.instance.key (key_stands q.number g.0 g.1) answers q.number q.less in
          let some : 0 < uses (r.answer q.number) g.0.call.instance.key = subst (λ x. 0 < uses x g.0.call.instance.key) (sym (eqb-true (r.answer q.number) r.key q.holds)) (read_uses r.key g.0.call.instance.key c.instance.key) in
          absurd (omega arith)
