-- What the code writes is the context, where its sites are those of the game.
use Rattle.std.proofs.Common.{◌≡◌, ℕ, zero, suc, ◌+◌, ◌-◌, ◌≤◌, Bool, true, false, cond, ◌&&◌, ◌==◌, List, [], ◌∷◌, ◌++◌, length, drop, take, map, Option, Some, None, refl, sym, ap, ap₂, subst, ◌∙◌, append_assoc, append-nil, arith, eq-eqb, eqb-true, drop-drop}
use Rattle.std.proofs.lemmas.Bool.{both_ways}
use Rattle.std.proofs.lemmas.List.{length-append}
use Rattle.std.specs.List.{All, AllByRecursion}
use Rattle.std.specs.Prelude.{slice_get}
use Rattle.cv_pool.specs.KindTree.{KindTree}
use Rattle.cv_syntax_trees.specs.declared.head.Head.{Head}
use Rattle.cv_syntax_trees.specs.declared.head.Head.TheVariants.{And, Apply, Eq, Key, Leaf, New, No, Not, Or, Read, Yes, Call as CallHead}
use Rattle.cv_syntax_trees.specs.Head.{weight}
use Rattle.cv_syntax.specs.NameSets.{is_in}
use Rattle.cv_pool.specs.declared.node.NodeId.{NodeId}
use Rattle.cv_syntax_trees.specs.Tree.{Tree, Empty, Node, first_place, second_place, size}
use Rattle.cv_syntax.specs.PoolTrees.{tree_at}
use Rattle.cv_scope_rules.specs.declared.position.Position.{Position}
use Rattle.cv_scope_rules.specs.declared.position.Position.TheVariants.{Anywhere}
use Rattle.cv_scene.specs.Scenes.{Scene}
use Rattle.cv_scope_rules.specs.Context.{cell_of, first_position, replications_below, second_position}
use Rattle.cv_scene.specs.Instances.{Call, Matching, call_at}
use Rattle.cv_scene.specs.Sites as instances
use Rattle.cv_scene.specs.Sites.{is_guard, sites_in, sites_of}
use Rattle.cv_scene.specs.Contexts.{after_calls, call_terms, context_in, context_of, in_context, is_coin_variable, is_statement, matching_of}
use Rattle.cv_scene.specs.Apt.{has_value}
use Rattle.cv_match_terms.specs.patterns.Sites.{HasInstance, instance_in, site_in}
use Rattle.cv_match_terms.specs.declared.patterns.site.Site.{Site}
use Rattle.cv_context.specs.nodes.Calls.{terms_of}
use Rattle.cv_context.specs.nodes.Written.{answer_in, calls_here}
use Rattle.cv_context.specs.declared.nodes.calls.Call.{Call as Written}
use Rattle.cv_context.specs.declared.nodes.roles.Roles.{Roles}
use Rattle.cv_context.specs.Roles.{AreSitesOf, is_coin_at, name_at, reads_at, reads_of}
use Rattle.cv_context.specs.Written.{Part, before, is_place, is_site, joined, node_in, part_at, part_unless}
use Rattle.cv_context.proofs.Drawn.{found}
use Rattle.cv_context.proofs.Walking.{at_node, at_site, skipped, whole}
use Rattle.cv_syntax_trees.proofs.lists.Each.{AllByRecursion_append}

later : (m n : ℕ) → m ≤ n → (ss : List instances.Site) → AllByRecursion (λ (s : instances.Site). n ≤ s.place) ss → AllByRecursion (λ (s : instances.Site). m ≤ s.place) ss
later m n l [] e = tt
later m n l (s ∷ ss) e = (let k = e.0 in omega arith, later m n l ss e.1)

-- no site stands before its part's place
pub sites_behind : (M : Matching) (w : Position) (rs : List (ℕ × ℕ)) (p : ℕ) (t : Tree) → AllByRecursion (λ (s : instances.Site). p ≤ s.place) (sites_in M w rs p t)
unfolding sites_in
sites_behind M w rs p Empty = tt
sites_behind M w rs p (Node h a b) =
    go (call_at M (Node h a b)) (is_guard w) (later p (first_place p h) (omega arith) _ (sites_behind M (first_position w h) rs (first_place p h) a)) (later p (second_place p h a) (omega arith) _ (sites_behind M (second_position w h) (replications_below h rs) (second_place p h a) b))
  where
    inner : List instances.Site
    inner = sites_in M (first_position w h) rs (first_place p h) a

    outer : List instances.Site
    outer = sites_in M (second_position w h) (replications_below h rs) (second_place p h a) b

    go : (o : Option Call) (z : Bool) → AllByRecursion (λ (s : instances.Site). p ≤ s.place) inner → AllByRecursion (λ (s : instances.Site). p ≤ s.place) outer → AllByRecursion (λ (s : instances.Site). p ≤ s.place) (elim o as (λ _. List instances.Site) [
      | Some c ↦ record { place = p; term = Node h a b; replications = rs; call = c } ∷ []
      | None ↦ cond z [] inner ++ outer
    ])
    go (Some c) z e f = (omega arith, tt)
    go None true e f = f
    go None false e f = AllByRecursion_append (λ (s : instances.Site). p ≤ s.place) inner outer e f

-- the code's calls are those of these sites
pub AreSites : List KindTree → List Written → List instances.Site → Type 0
AreSites trees [] [] = Unit {0}
AreSites trees (x ∷ xs) (y ∷ ys) = (x.place ≡ y.place) × (terms_of trees x ≡ call_terms y.call.instance) × AreSites trees xs ys
AreSites trees xs ys = ⊥

-- so the next one tells whether a node is a site
pub told_by_place : (trees : List KindTree) (p : ℕ) (xs : List Written) (ys : List instances.Site) → AreSites trees xs ys → AllByRecursion (λ (s : instances.Site). suc p ≤ s.place) ys → is_place p (slice_get xs 0) ≡ false
unfolding AreSites
told_by_place trees p [] ys a e = refl
told_by_place trees p (x ∷ xs) [] a e = absurd a
told_by_place trees p (x ∷ xs) (y ∷ ys) a e = go (x.place == p) refl
  where
    go : (b : Bool) → (x.place == p) ≡ b → b ≡ false
    go false f = refl
    go true f = absurd (let i = eqb-true x.place p f in let j = a.0 in let k = e.0 in omega arith)

pub found_by_place : (trees : List KindTree) (p : ℕ) (xs : List Written) (y : instances.Site) (ys : List instances.Site) → AreSites trees xs (y ∷ ys) → y.place ≡ p → is_place p (slice_get xs 0) ≡ true
unfolding AreSites
found_by_place trees p [] y ys a e = absurd a
found_by_place trees p (x ∷ xs) y ys a e = eq-eqb x.place p (a.0 ∙ e)

-- those behind the first ones
sites_dropped : (trees : List KindTree) (xs : List Written) (ys zs : List instances.Site) → AreSites trees xs (ys ++ zs) → AreSites trees (drop (length ys) xs) zs
unfolding AreSites
sites_dropped trees xs [] zs a = a
sites_dropped trees [] (y ∷ ys) zs a = absurd a
sites_dropped trees (x ∷ xs) (y ∷ ys) zs a = sites_dropped trees xs ys zs a.2

-- calls of the first ones, before a tree
calls_before : (trees : List KindTree) (r : Roles) (s : ℕ) (xs : List Written) (ys zs : List instances.Site) (t : Tree) → AreSites trees xs (ys ++ zs) → before trees r s (take (length ys) xs) t ≡ after_calls (answer_in r) s ys t
unfolding AreSites
calls_before trees r s xs [] zs t a = refl
calls_before trees r s [] (y ∷ ys) zs t a = absurd a
calls_before trees r s (x ∷ xs) (y ∷ ys) zs t a = ap₂ (λ i u. Node (CallHead (answer_in r s) s) i u) a.1 (calls_before trees r (suc s) xs ys zs t a.2)

-- the calls of sites don't say at which places they are

AreAlike : List instances.Site → List instances.Site → Type 0
AreAlike [] [] = Unit {0}
AreAlike (x ∷ xs) (y ∷ ys) = (x.call ≡ y.call) × AreAlike xs ys
AreAlike xs ys = ⊥

alike_append : (xs ys vs ws : List instances.Site) → AreAlike xs vs → AreAlike ys ws → AreAlike (xs ++ ys) (vs ++ ws)
unfolding AreAlike
alike_append [] ys [] ws e f = f
alike_append [] ys (v ∷ vs) ws e f = absurd e
alike_append (x ∷ xs) ys [] ws e f = absurd e
alike_append (x ∷ xs) ys (v ∷ vs) ws e f = (e.0, alike_append xs ys vs ws e.1 f)

alike_none : AreAlike [] []
unfolding AreAlike
alike_none = tt

alike_sites : (M : Matching) (w : Position) (rs : List (ℕ × ℕ)) (t : Tree) (p q : ℕ) → AreAlike (sites_in M w rs p t) (sites_in M w rs q t)
unfolding AreAlike sites_in
alike_sites M w rs Empty p q = tt
alike_sites M w rs (Node h a b) p q =
    go (call_at M (Node h a b)) (is_guard w) _ _ _ _
    (alike_sites M (first_position w h) rs a (first_place p h) (first_place q h)) (alike_sites M (second_position w h) (replications_below h rs) b (second_place p h a) (second_place q h a))
  where
    here : ℕ → Call → instances.Site
    here j c = record { place = j; term = Node h a b; replications = rs; call = c }

    among : ℕ → Option Call → Bool → List instances.Site → List instances.Site → List instances.Site
    among j o z xs ys = elim o as (λ _. List instances.Site) [ Some c ↦ here j c ∷ [] | None ↦ cond z [] xs ++ ys ]

    go : (o : Option Call) (z : Bool) (xs ys vs ws : List instances.Site) → AreAlike xs vs → AreAlike ys ws → AreAlike (among p o z xs ys) (among q o z vs ws)
    go (Some c) z xs ys vs ws e f = (refl, tt)
    go None true xs ys vs ws e f = f
    go None false xs ys vs ws e f = alike_append xs ys vs ws e f

alike_calls : (answer : ℕ → ℕ) (s : ℕ) (xs ys : List instances.Site) (t : Tree) → AreAlike xs ys → after_calls answer s xs t ≡ after_calls answer s ys t
unfolding AreAlike
alike_calls answer s [] [] t e = refl
alike_calls answer s [] (y ∷ ys) t e = absurd e
alike_calls answer s (x ∷ xs) [] t e = absurd e
alike_calls answer s (x ∷ xs) (y ∷ ys) t e = ap₂ (λ (c : Call) u. Node (CallHead (answer s) s) (call_terms c.instance) u) e.0 (alike_calls answer (suc s) xs ys t e.1)

alike_many : (xs ys : List instances.Site) → AreAlike xs ys → length xs ≡ length ys
unfolding AreAlike
alike_many [] [] e = refl
alike_many [] (y ∷ ys) e = absurd e
alike_many (x ∷ xs) [] e = absurd e
alike_many (x ∷ xs) (y ∷ ys) e = ap suc (alike_many xs ys e.1)

-- a node that has a value has a place of its own
value_weight : (h : Head) (a b : Tree) → has_value (Node h a b) ≡ true → (weight h == 1) ≡ true
value_weight (Leaf x) a b e = refl
value_weight (Read x) a b e = refl
value_weight (Apply f) a b e = refl
value_weight Eq a b e = refl
value_weight And a b e = refl
value_weight Or a b e = refl
value_weight Not a b e = refl
value_weight Yes a b e = refl
value_weight No a b e = refl
value_weight h a b e = absurd (both_ways false refl e)

size_node : (h : Head) (a b : Tree) → size (Node h a b) ≡ weight h + size a + size b
unfolding size
size_node h a b = refl

at_drop : {A : Type 0} (s : ℕ) (xs : List A) → slice_get (drop s xs) 0 ≡ slice_get xs s
at_drop zero xs = refl
at_drop (suc s) [] = refl
at_drop (suc s) (x ∷ xs) = at_drop s xs

module _ (trees : List KindTree) (r : Roles) (ss : List Written) (M : Matching) (coins : ℕ → Bool) (key : M.key ≡ r.key) (drawn : (y : ℕ) → is_in r.coins y ≡ coins y) (terms : (t : Tree) → has_value t ≡ false → call_at M t ≡ None) where
  node_same : (h : Head) (a b : Tree) → node_in r h a b ≡ in_context M coins h a b
  node_same (New y T) a b = ap₂ (λ k c. cond (y == k) (Node (Key y) Empty b) (cond c b (Node (New y T) a b))) (sym key) (drawn y)
  node_same h a b = refl

  calls_same : (s : ℕ) (sub inside zs : List instances.Site) (h : Head) (t : Tree) → AreSites trees (drop s ss) (sub ++ zs) → AreAlike sub inside
      → before trees r s (calls_here ss h s (s + length sub)) t ≡ after_calls (answer_in r) s (cond (is_statement h) inside []) t
  calls_same s sub inside zs h t e f = go (is_statement h)
    where
      many : (s + length sub) - s ≡ length sub
      many = omega arith

      go : (z : Bool) → before trees r s (cond z (take ((s + length sub) - s) (drop s ss)) []) t ≡ after_calls (answer_in r) s (cond z inside []) t
      go false = refl
      go true = ap (λ k. before trees r s (take k (drop s ss)) t) many ∙ calls_before trees r s (drop s ss) sub zs t e ∙ alike_calls (answer_in r) s sub inside t f

  abbrev At : Position → List (ℕ × ℕ) → ℕ → ℕ → Tree → Part
  At w rs s p t = part_at trees r ss w rs s p t

  abbrev Context : Position → List (ℕ × ℕ) → ℕ → Tree → Tree
  Context w rs s t = context_in M coins (answer_in r) w rs s t

  -- a node that is no site, of whose first child the part is known
  module _ (w : Position) (rs : List (ℕ × ℕ)) (s p : ℕ) (h : Head) (a b : Tree) (none : is_site ss s p h ≡ false) where
    abbrev outer : List instances.Site
    outer = sites_in M (second_position w h) (replications_below h rs) (second_place p h a) b

    abbrev behind : ℕ → Part
    behind n = At (second_position w h) (replications_below h rs) n (second_place p h a) b

    node_aligned : (sub inside rest : List instances.Site) (c : Tree) → part_unless (is_guard w) trees r ss (first_position w h) rs s (first_place p h) a ≡ record { tree = c; next = s + length sub }
        → AreSites trees (drop s ss) (sub ++ (outer ++ rest)) → AreAlike sub inside
        → ((n : ℕ) → AreSites trees (drop n ss) (outer ++ rest) → behind n ≡ record { tree = Context (second_position w h) (replications_below h rs) n b; next = n + length outer })
        → At w rs s p (Node h a b) ≡ record {
          tree = after_calls (answer_in r) s (cond (is_statement h) inside []) (in_context M coins h c (Context (second_position w h) (replications_below h rs) (s + length inside) b));
          next = s + length (sub ++ outer);
        }
    node_aligned sub inside rest c e f g ih =
        at_node trees r ss w rs s p (Node h a b) h a b refl false (sym none) refl
        ∙ ap (λ x. joined trees r ss h s x behind) e
        ∙ ap (λ (y : Part). let x : Part = record { tree = before trees r s (calls_here ss h s n) (node_in r h c y.tree); next = y.next } in x) (ih n there)
        ∙ ap₂ (λ t k. let x : Part = record { tree = t; next = k } in x) tree more
      where
        n : ℕ
        n = s + length sub

        there : AreSites trees (drop n ss) (outer ++ rest)
        there = subst (λ xs. AreSites trees xs (outer ++ rest)) (drop-drop (length sub) s ss) (sites_dropped trees (drop s ss) sub (outer ++ rest) f)

        later_part : ℕ → Tree
        later_part k = Context (second_position w h) (replications_below h rs) k b

        tree : before trees r s (calls_here ss h s n) (node_in r h c (later_part n)) ≡ after_calls (answer_in r) s (cond (is_statement h) inside []) (in_context M coins h c (later_part (s + length inside)))
        tree =
            calls_same s sub inside (outer ++ rest) h (node_in r h c (later_part n)) f g
            ∙ ap (after_calls (answer_in r) s (cond (is_statement h) inside [])) (node_same h c (later_part n) ∙ ap (λ k. in_context M coins h c (later_part (s + k))) (alike_many sub inside g))

        more : n + length outer ≡ s + length (sub ++ outer)
        more = let k = length-append sub outer in omega (arith, k)

  pub aligned : (w : Position) (rs : List (ℕ × ℕ)) (s p : ℕ) (t : Tree) (rest : List instances.Site) → AreSites trees (drop s ss) (sites_in M w rs p t ++ rest) → AllByRecursion (λ (y : instances.Site). p + size t ≤ y.place) rest
      → At w rs s p t ≡ record { tree = Context w rs s t; next = s + length (sites_in M w rs p t) }
  unfolding part_at context_in sites_in
  aligned w rs s p Empty rest e f = ap (λ k. let x : Part = record { tree = Empty; next = k } in x) (let k : s ≡ s + 0 = omega arith in k)
  aligned w rs s p (Node h a b) rest e f =
      go (call_at M (Node h a b)) refl (is_guard w) refl (aligned (first_position w h) rs s (first_place p h) a) (λ n. aligned (second_position w h) (replications_below h rs) n (second_place p h a) b) e
    where
      after : size (Node h a b) ≡ weight h + size a + size b
      after = size_node h a b

      inner : ℕ → List instances.Site
      inner q = sites_in M (first_position w h) rs q a

      last : List instances.Site
      last = sites_in M (second_position w h) (replications_below h rs) (second_place p h a) b

      sites_by : Option Call → Bool → List instances.Site
      sites_by o z = elim o as (λ _. List instances.Site) [ Some c ↦ record { place = p; term = Node h a b; replications = rs; call = c } ∷ [] | None ↦ cond z [] (inner (first_place p h)) ++ last ]

      tree_by : Option Call → Bool → Tree
      tree_by o z = elim o as (λ _. Tree) [
        | Some c ↦ cell_of rs (answer_in r s)
        | None ↦ after_calls (answer_in r) s (cond (is_statement h) (cond z [] (inner 0)) [])
            (in_context M coins h (cond z a (Context (first_position w h) rs s a)) (Context (second_position w h) (replications_below h rs) (s + length (cond z [] (inner 0))) b))
      ]

      last_after : (k : ℕ) → k ≤ second_place p h a → AllByRecursion (λ (y : instances.Site). k ≤ y.place) last
      last_after k l = later k (second_place p h a) l last (sites_behind M (second_position w h) (replications_below h rs) (second_place p h a) b)

      rest_after : (k : ℕ) → k ≤ p + size (Node h a b) → AllByRecursion (λ (y : instances.Site). k ≤ y.place) rest
      rest_after k l = later k (p + size (Node h a b)) l rest f

      -- where sites are behind this place, none is here
      elsewhere : (xs : List instances.Site) → AreSites trees (drop s ss) xs → ((weight h == 1) ≡ true → AllByRecursion (λ (y : instances.Site). suc p ≤ y.place) xs) → is_site ss s p h ≡ false
      elsewhere xs g k = by (weight h == 1) refl
        where
          by : (v : Bool) → (weight h == 1) ≡ v → (v && is_place p (slice_get ss s)) ≡ false
          by false i = refl
          by true i = ap (is_place p) (sym (at_drop s ss)) ∙ told_by_place trees p (drop s ss) xs g (k i)

      go : (o : Option Call) → call_at M (Node h a b) ≡ o → (z : Bool) → is_guard w ≡ z
          → ((more : List instances.Site) → AreSites trees (drop s ss) (inner (first_place p h) ++ more) → AllByRecursion (λ (y : instances.Site). first_place p h + size a ≤ y.place) more → At (first_position w h) rs s (first_place p h) a ≡ record { tree = Context (first_position w h) rs s a; next = s + length (inner (first_place p h)) })
          → ((n : ℕ) (more : List instances.Site) → AreSites trees (drop n ss) (last ++ more) → AllByRecursion (λ (y : instances.Site). second_place p h a + size b ≤ y.place) more → At (second_position w h) (replications_below h rs) n (second_place p h a) b ≡ record { tree = Context (second_position w h) (replications_below h rs) n b; next = n + length last })
          → AreSites trees (drop s ss) (sites_by o z ++ rest)
          → At w rs s p (Node h a b) ≡ record { tree = tree_by o z; next = s + length (sites_by o z) }
      go (Some c) i z j ihb iho g =
          at_site trees r ss w rs s p (Node h a b) h a b refl true (sym here) refl ∙ ap (λ k. let x : Part = record { tree = cell_of rs (answer_in r s); next = k } in x) (let k : suc s ≡ s + 1 = omega arith in k)
        where
          by : (v : Bool) → has_value (Node h a b) ≡ v → (weight h == 1) ≡ true
          by true v = value_weight h a b v
          by false v = let k : Some c ≡ None = sym i ∙ terms (Node h a b) v in absurd (cc)

          here : is_site ss s p h ≡ true
          here = ap₂ (λ u v. u && v) (by (has_value (Node h a b)) refl) (ap (is_place p) (sym (at_drop s ss)) ∙ found_by_place trees p (drop s ss) (record { place = p; term = Node h a b; replications = rs; call = c }) rest g refl)
      go None i true j ihb iho g =
          node_aligned w rs s p h a b none [] [] rest a (skipped trees r ss (is_guard w) (first_position w h) rs s (first_place p h) a j ∙ ap (λ k. let x : Part = record { tree = a; next = k } in x) (let k : s ≡ s + 0 = omega arith in k)) g alike_none (λ n e. iho n rest e (rest_after (second_place p h a + size b) (omega (arith, after))))
        where
          none : is_site ss s p h ≡ false
          none = elsewhere (last ++ rest) g (λ k. AllByRecursion_append (λ (y : instances.Site). suc p ≤ y.place) last rest (last_after (suc p) (omega (arith, eqb-true (weight h) 1 k))) (rest_after (suc p) (omega (arith, eqb-true (weight h) 1 k, after))))
      go None i false j ihb iho g =
          node_aligned w rs s p h a b none (inner (first_place p h)) (inner 0) rest (Context (first_position w h) rs s a) (whole trees r ss (is_guard w) (first_position w h) rs s (first_place p h) a j ∙ ihb (last ++ rest) these (AllByRecursion_append (λ (y : instances.Site). first_place p h + size a ≤ y.place) last rest (last_after (first_place p h + size a) (omega arith)) (rest_after (first_place p h + size a) (omega (arith, after))))) these (alike_sites M (first_position w h) rs a (first_place p h) 0) (λ n e. iho n rest e (rest_after (second_place p h a + size b) (omega (arith, after))))
        where
          these : AreSites trees (drop s ss) (inner (first_place p h) ++ (last ++ rest))
          these = subst (AreSites trees (drop s ss)) (append_assoc (inner (first_place p h)) last rest) g

          none : is_site ss s p h ≡ false
          none = elsewhere (inner (first_place p h) ++ (last ++ rest)) these (λ k.
              AllByRecursion_append (λ (y : instances.Site). suc p ≤ y.place) (inner (first_place p h)) (last ++ rest) (later (suc p) (first_place p h) (omega (arith, eqb-true (weight h) 1 k)) (inner (first_place p h)) (sites_behind M (first_position w h) rs (first_place p h) a))
              (AllByRecursion_append (λ (y : instances.Site). suc p ≤ y.place) last rest (last_after (suc p) (omega (arith, eqb-true (weight h) 1 k))) (rest_after (suc p) (omega (arith, eqb-true (weight h) 1 k, after)))))

-- the sites that a search answers
answered : (trees : List KindTree) (M : Matching) (cs : List Written) (xs : List Site) → map (reads_at trees) cs ≡ map (reads_of trees) xs → All (HasInstance trees M) xs → AreSites trees cs (map (site_in trees M) xs)
unfolding AreSites
answered trees M [] [] f e = tt
answered trees M [] (x ∷ xs) f e = absurd (cc)
answered trees M (c ∷ cs) [] f e = absurd (cc)
answered trees M (c ∷ cs) (x ∷ xs) f e =
    let here : (c.place, terms_of trees c) ≡ (x.place, call_terms (instance_in trees x.instance)) = cc in
    let more : map (reads_at trees) cs ≡ map (reads_of trees) xs = cc in
    (ap (λ (r : ℕ × Tree). r.0) here, ap (λ (r : ℕ × Tree). r.1) here ∙ ap call_terms (e 0 x (omega arith)).instance.terms, answered trees M cs xs more (λ k d l. e (suc k) d (omega arith)))

pub context_made : (trees : List KindTree) (r : Roles) (cs : List Written) (ss : List Site) (s : Scene) (e : Tree) (x : ℕ) (g : Option NodeId) (names : List ℕ) → AreSitesOf trees s e x ss g → map (reads_at trees) cs ≡ map (reads_of trees) ss
    → r.key ≡ x → ((y : ℕ) → is_in r.coins y ≡ is_coin_at trees ss y) → r.answers.items ≡ names
    → (part_unless false trees r cs Anywhere [] 0 0 (tree_at trees g)).tree ≡ (context_of s e x (name_at names)).game
context_made trees r cs ss s e x g names a calls key coins answers =
    ap (λ (p : Part). p.tree) (whole trees r cs false Anywhere [] 0 0 game refl ∙ aligned trees r cs M in_sites (sym key) drawn a.terms Anywhere [] 0 0 game [] these tt)
    ∙ ap₂ (λ (f : ℕ → ℕ) t. context_in M in_sites f Anywhere [] 0 t) (ap name_at answers) (sym a.game)
  where
    M : Matching
    M = matching_of s e x

    game : Tree
    game = tree_at trees g

    in_sites : ℕ → Bool
    in_sites = is_coin_variable (sites_of M)

    these : AreSites trees cs (sites_in M Anywhere [] 0 game ++ [])
    these = subst (AreSites trees cs) (a.sites ∙ ap (sites_in M Anywhere [] 0) a.game ∙ sym (append-nil (sites_in M Anywhere [] 0 game))) (answered trees M cs ss calls a.instances)

    drawn : (y : ℕ) → is_in r.coins y ≡ in_sites y
    drawn y = coins y ∙ found trees M y ss a.instances ∙ ap (λ l. is_coin_variable l y) a.sites
