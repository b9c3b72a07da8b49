-- The calls of a statement's sites answer the values of their instances.
use Rattle.std.proofs.Common.{◌≡◌, ℕ, zero, suc, ◌+◌, ◌<◌, Bool, true, false, cond, ◌&&◌, not, ◌==◌, List, [], ◌∷◌, ◌++◌, map, length, ◌⊎◌, inl, inr, Option, Some, None, is_some, refl, sym, ap, subst, ◌∙◌, eq-eqb, eqb-true, arith}
use Rattle.std.proofs.lemmas.Bool.{both_ways, and_parts}
use Rattle.std.specs.List.{AllByRecursion, IsDistinct}
use Rattle.std.specs.Prelude.{nat_eq}
use mathlib.Core.List.{reverse_aux}
use Rattle.cv_syntax_trees.specs.declared.head.Head.TheVariants.{Leaf, Read, Apply, Eq, And, Or, Not, Yes, No, Cons}
use Rattle.cv_syntax_trees.specs.Declarations.{Declaration}
use Rattle.cv_syntax_trees.specs.Tree.{Tree, Empty, Node, chain, first, reads_only}
use Rattle.cv_meaning.specs.Interpretation.{Interpretation, Setting, is_constant_of}
use Rattle.cv_meaning.specs.Memory.{Indices, Local, Memory, Store, put, tuple}
use Rattle.cv_meaning.specs.Serving.{Served, key_tuple, serve, step}
use Rattle.cv_meaning.specs.Side.{OracleAnswer, OracleCall}
use Rattle.cv_meaning.specs.Tapes.{Key_at, Made_at, Tape}
use Rattle.cv_meaning.specs.Terms.{found_in, leaf_value_from, or_zero, value, values}
use Rattle.cv_meaning_laws.proofs.Agreeing.{values_agree}
use Rattle.cv_meaning_laws.proofs.Sides.{values_same}
use Rattle.cv_meaning.specs.contexts.Bodies.{reply}
use Rattle.cv_meaning.specs.contexts.Groups.{Function, Group}
use Rattle.cv_scope_rules.specs.Context.{cell_of, index_terms}
use Rattle.cv_scope_rules.specs.Phrases.{Nil, Term, Terms, is_phrase}
use Rattle.cv_scope_runs.specs.Reads.{LeafAssigned, TermAssigned, TermsAssigned}
use Rattle.cv_scope_runs.proofs.Contexts.{Matches, constant_none, put_here, put_other, variable_none}
use Rattle.cv_scope_runs.proofs.TermsLater.{some_of}
use Rattle.cv_scene.specs.Sights.{variable_of}
use Rattle.cv_scene.specs.lines.Given.{or_node, term_for, with_given}
use Rattle.cv_scene.specs.Instances.{Instance, filled, names_of, terms_of}
use Rattle.cv_scene.specs.Refusals.{uses}
use Rattle.cv_scene.specs.Sites.{Site}
use Rattle.cv_scene.specs.Contexts.{after_calls}
use Rattle.cv_scene.specs.LeftTerms.{IsLeftFunction, reads_no_array}
use Rattle.cv_scene.specs.Standing.{AreAsMany, AreDrawn}
use Rattle.cv_match_laws.proofs.values.Answers.{answered}
use Rattle.cv_scene.specs.Reductions.{Reduction, in_context, in_game, is_plain, matching, oracles, sites}
use Rattle.cv_scene.specs.Apt.{AreCoinsApt, AreSitesApt, IsAptGame, IsCoinApt, IsSiteApt}
use Rattle.cv_context_runs.proofs.service.Kept.{KeptStores, answers_are, coin_not_plain, key_not_plain, put_answer, where_there}
use Rattle.cv_context_runs.proofs.service.Terms.{AreAnswered, cell_value, terms_values}
use Rattle.cv_match_laws.proofs.instances.Given.{all_refl}
use Rattle.cv_context_runs.proofs.instances.Arguments.{either}
use Rattle.cv_syntax_trees.proofs.lists.Each.{AllByRecursion_both, AllByRecursion_left}

-- a term that is given for a name which a body reads is assigned where the whole instance is

no_uses : (x : ℕ) (a : Tree) → is_phrase Nil a ≡ true → uses x a ≡ 0
unfolding is_phrase uses
no_uses x Empty e = refl
no_uses x (Node h a b) e = absurd (both_ways false refl e)

module _ (g : Setting) (at : Indices) (m : Store) (xs : List ℕ) (ts : Tree) (x : ℕ) (given : Tree) (found : term_for xs ts x ≡ Some given) where
  leaf_given : (y : ℕ) (a b : Tree) (u : ℕ) → u ≡ 0 → (c : Bool) → (y == x) ≡ c → 0 < cond c 1 0 + u → TermAssigned g at m (or_node (term_for xs ts y) (Leaf y) a b) → TermAssigned g at m given
  leaf_given y a b u z true e l t = subst (λ o. TermAssigned g at m (or_node o (Leaf y) a b)) (ap (term_for xs ts) (eqb-true y x e) ∙ found) t
  leaf_given y a b u z false e l t = absurd (omega arith)

  both_assigned : (a b : Tree) → is_phrase Term a && is_phrase Term b ≡ true → reads_no_array a && reads_no_array b ≡ true → (0 < uses x a) ⊎ (0 < uses x b) → TermAssigned g at m (with_given xs ts a) → TermAssigned g at m (with_given xs ts b)
      → (is_phrase Term a ≡ true → reads_no_array a ≡ true → 0 < uses x a → TermAssigned g at m (with_given xs ts a) → TermAssigned g at m given)
      → (is_phrase Term b ≡ true → reads_no_array b ≡ true → 0 < uses x b → TermAssigned g at m (with_given xs ts b) → TermAssigned g at m given) → TermAssigned g at m given
  both_assigned a b w n (inl l) t u f k = f (and_parts (is_phrase Term a) _ w).0 (and_parts (reads_no_array a) _ n).0 l t
  both_assigned a b w n (inr l) t u f k = k (and_parts (is_phrase Term a) _ w).1 (and_parts (reads_no_array a) _ n).1 l u

  mutual
    unfolding uses with_given is_phrase reads_no_array

    given_assigned : (b : Tree) → is_phrase Term b ≡ true → reads_no_array b ≡ true → 0 < uses x b → TermAssigned g at m (with_given xs ts b) → TermAssigned g at m given
    given_assigned (Node (Leaf y) a b) w n l t =
        let p = and_parts (is_phrase Nil a) _ w in
        leaf_given y _ _ (uses x a + uses x b) (let i = no_uses x a p.0 in let j = no_uses x b p.1 in omega arith) (y == x) refl l t
    given_assigned (Node (Read y) a b) w n l t = absurd (both_ways false refl n)
    given_assigned (Node (Apply f) a b) w n l t =
        let p = and_parts (is_phrase Terms a) _ w in
        givens_assigned a p.0 (and_parts (reads_no_array a) _ n).0 (let j = no_uses x b p.1 in omega arith) t
    given_assigned (Node Eq a b) w n l t = both_assigned a b w n (either (uses x a) (uses x b) (omega arith)) t.0 t.1 (given_assigned a) (given_assigned b)
    given_assigned (Node And a b) w n l t = both_assigned a b w n (either (uses x a) (uses x b) (omega arith)) t.0 t.1 (given_assigned a) (given_assigned b)
    given_assigned (Node Or a b) w n l t = both_assigned a b w n (either (uses x a) (uses x b) (omega arith)) t.0 t.1 (given_assigned a) (given_assigned b)
    given_assigned (Node Not a b) w n l t =
        let p = and_parts (is_phrase Term a) _ w in
        given_assigned a p.0 (and_parts (reads_no_array a) _ n).0 (let j = no_uses x b p.1 in omega arith) t.0
    given_assigned (Node Yes a b) w n l t = let p = and_parts (is_phrase Nil a) _ w in absurd (let i = no_uses x a p.0 in let j = no_uses x b p.1 in omega arith)
    given_assigned (Node No a b) w n l t = let p = and_parts (is_phrase Nil a) _ w in absurd (let i = no_uses x a p.0 in let j = no_uses x b p.1 in omega arith)
    given_assigned b w n l t = absurd (both_ways false refl w)

    givens_assigned : (b : Tree) → is_phrase Terms b ≡ true → reads_no_array b ≡ true → 0 < uses x b → TermsAssigned g at m (with_given xs ts b) → TermAssigned g at m given
    givens_assigned Empty w n l t = absurd (omega arith)
    givens_assigned (Node Cons a b) w n l t =
        let p = and_parts (is_phrase Term a) _ w in
        let q = and_parts (reads_no_array a) _ n in
        elim (either (uses x a) (uses x b) (omega arith)) as (λ _. TermAssigned g at m given) [
          | inl k ↦ given_assigned a p.0 q.0 k t.0
          | inr k ↦ givens_assigned b p.1 q.1 k t.1
        ]
    givens_assigned b w n l t = absurd (both_ways false refl w)

-- as many names as terms

AsMany : List ℕ → List Tree → Type 0
AsMany [] [] = Unit {0}
AsMany (x ∷ xs) (m ∷ ms) = AsMany xs ms
AsMany xs ms = ⊥

reversed_many : (xs : List ℕ) (ms : List Tree) (A : List ℕ) (B : List Tree) → AsMany xs ms → AsMany A B → AsMany (reverse_aux xs A) (reverse_aux ms B)
unfolding AsMany
reversed_many [] [] A B e f = f
reversed_many (x ∷ xs) (m ∷ ms) A B e f = reversed_many xs ms (x ∷ A) (m ∷ B) e f
reversed_many [] (m ∷ ms) A B e f = absurd e
reversed_many (x ∷ xs) [] A B e f = absurd e

-- what holds of each term that is given for a name holds of each term of the list
each_given : (P : Tree → Type 0) (R : ℕ → Type 0) (look : ℕ → Option Tree) → ((x : ℕ) (m : Tree) → R x → look x ≡ Some m → P m) → (xs : List ℕ) (ms : List Tree) → AsMany xs ms → IsDistinct nat_eq xs → AllByRecursion R xs
    → AllByRecursion (λ y. look y ≡ term_for xs (chain ms) y) xs → AllByRecursion P ms
unfolding AsMany IsDistinct
each_given P R look f [] [] n d s e = tt
each_given P R look f (x ∷ xs) (m ∷ ms) n d s e = (
  f x m s.0 (e.0 ∙ ap (λ b. cond b (Some m) (term_for xs (chain ms) x)) (eq-eqb x x refl)),
  each_given P R look f xs ms n d.1 s.1
      (AllByRecursion_both (λ y. nat_eq x y ≡ false) (λ y. look y ≡ cond (x == y) (Some m) (term_for xs (chain ms) y)) (λ y. look y ≡ term_for xs (chain ms) y) (λ y z l. l ∙ ap (λ b. cond b (Some m) (term_for xs (chain ms) y)) z) xs d.0 e.1),
)
each_given P R look f [] (m ∷ ms) n d s e = absurd n
each_given P R look f (x ∷ xs) [] n d s e = absurd n

reversed_each : (P : Tree → Type 0) (xs A : List Tree) → AllByRecursion P (reverse_aux xs A) → AllByRecursion P xs × AllByRecursion P A
reversed_each P [] A h = (tt, h)
reversed_each P (x ∷ xs) A h = let r = reversed_each P xs (x ∷ A) h in ((r.1.0, r.0), r.1.1)

-- the terms of an instance are assigned where the instance is
module _ (ds : List Declaration) (G : Group) (f : Function) (I : Instance) (left : IsLeftFunction ds G f) (many : AsMany (map (λ (x : ℕ × ℕ). x.0) (f.coins ++ f.arguments)) (I.coins ++ I.arguments)) where
  instance_assigned : (g : Setting) (at : Indices) (m : Store) → TermAssigned g at m (filled G f I) → TermAssigned g at m I.key × AllByRecursion (TermAssigned g at m) I.coins
  unfolding AsMany
  instance_assigned g at m t =
      let all : AllByRecursion (TermAssigned g at m) (reverse_aux (I.coins ++ I.arguments) (I.key ∷ [])) =
      each_given (TermAssigned g at m) (λ x. 0 < uses x f.body) (term_for (names_of G f) (terms_of I))
      (λ x given r e. given_assigned g at m (names_of G f) (terms_of I) x given e f.body left.term left.plain r t)
      (names_of G f) (reverse_aux (I.coins ++ I.arguments) (I.key ∷ []))
      (reversed_many (map (λ (x : ℕ × ℕ). x.0) (f.coins ++ f.arguments)) (I.coins ++ I.arguments) (G.key.0 ∷ []) (I.key ∷ []) many tt)
      left.distinct left.read (all_refl (term_for (names_of G f) (terms_of I)) (names_of G f)) in
      let r = reversed_each (TermAssigned g at m) (I.coins ++ I.arguments) (I.key ∷ []) all in
      (r.1.0, AllByRecursion_left (TermAssigned g at m) I.coins I.arguments r.0)

there : (o : Option ℕ) (v : ℕ) → is_some (where_there o v) ≡ true → or_zero (where_there o v) ≡ v
there None v e = absurd (both_ways false refl e)
there (Some w) v e = refl

module _ (r : Reduction) (fine : IsAptGame r) (i : Interpretation) (t : Tape) where
  abbrev g : Setting
  g = in_game r i

  abbrev h : Setting
  h = in_context r i

  abbrev V : ℕ → Bool
  V x = not (is_plain r x)

  module _ (rs : List (ℕ × ℕ)) (at : Indices) (k : Matches g V rs at) (m : Store) where
    leaf_there : (x : ℕ) → V x ≡ true → g.is_constant x ≡ false → LeafAssigned g m x (found_in at x) → is_some (m x []) ≡ true
    leaf_there x v c l = go (subst (LeafAssigned g m x) (variable_none g V rs at k x v) l)
      where
        go : LeafAssigned g m x None → is_some (m x []) ≡ true
        go (inl z) = absurd (both_ways _ c z)
        go (inr z) = z

    cell_there : (y : ℕ) → V y ≡ true → g.is_constant y ≡ false → (qs : List (ℕ × ℕ)) → qs ≡ rs → TermAssigned g at m (cell_of qs y) → is_some (m y (tuple at)) ≡ true
    cell_there y v c [] e a = ap (λ w. is_some (m y w)) (empty at (subst (λ q. Matches g V q at) (sym e) k)) ∙ leaf_there y v c a
      where
        empty : (at : Indices) → Matches g V [] at → tuple at ≡ []
        empty [] k = refl
        empty (p ∷ ps) k = absurd k.named
    cell_there y v c (q ∷ qs) e a = ap (λ w. is_some (m y w)) (sym (ap (λ z. values g at m (index_terms z)) e ∙ terms_values g at m at rs k.named k.found)) ∙ a.0

    module _ (y : Memory) (kept : KeptStores r t m y.store) where
      abbrev now : Local
      now = record { indices = at; memory = y }

      key_value : (κ : Tree) → variable_of κ ≡ Some r.key → reads_only (is_plain r) (first κ) ≡ true → TermAssigned g at m κ → value g at m κ ≡ t (Key_at (key_tuple h now κ))
      unfolding value
      key_value Empty v p a = absurd (clash v)
        where
          clash : ◌≡◌ {A = Option ℕ} None (Some r.key) → ⊥
          clash e = cc
      key_value (Node (Leaf x) c d) v p a =
          let e : x ≡ r.key = cc in
          let not_plain : V x ≡ true = ap (λ z. not (is_plain r z)) e ∙ ap not (key_not_plain r) in
          let no_constant : g.is_constant x ≡ false = ap (is_constant_of r.scene.declarations) e ∙ fine.key_constant in
          let same : m x [] ≡ where_there (y.store r.key []) (t (Key_at [])) = ap (λ z. m z []) e ∙ kept.key [] in
          ap (leaf_value_from g m x) (variable_none g V rs at k x not_plain) ∙ ap (λ b. cond b (g.interpretation.table x []) (or_zero (m x []))) no_constant
          ∙ ap or_zero same ∙ there _ _ (ap is_some (sym same) ∙ leaf_there x not_plain no_constant a)
      key_value (Node (Read x) c d) v p a =
          let e : x ≡ r.key = cc in
          let u : List ℕ = values g at m c in
          let same : m x u ≡ where_there (y.store r.key u) (t (Key_at u)) = ap (λ z. m z u) e ∙ kept.key u in
          ap or_zero same ∙ there _ _ (ap is_some (sym same) ∙ a.0)
          ∙ ap (λ w. t (Key_at w)) (values_agree g at (is_plain r) m y.store kept.plain c p ∙ sym (values_same g h.side at y.store c))
      key_value (Node j c d) v p a = absurd (clash v)
        where
          clash : ◌≡◌ {A = Option ℕ} None (Some r.key) → ⊥
          clash e = cc

      coin_value : (j z : ℕ) (c : Tree) → IsCoinApt r rs j z c → TermAssigned g at m c → value g at m c ≡ t (Made_at z (tuple at) j)
      coin_value j z c e a =
          let not_plain : V e.variable ≡ true = ap not (coin_not_plain r e.variable e.drawn) in
          let is : is_some (m e.variable (tuple at)) ≡ true = cell_there e.variable not_plain e.constant rs refl (subst (TermAssigned g at m) e.is a) in
          let s = some_of (m e.variable (tuple at)) is in
          ap (value g at m) e.is ∙ cell_value g V at rs k m e.variable not_plain e.constant ∙ ap or_zero s.1 ∙ kept.coins e.variable (tuple at) s.0 e.drawn s.1 ∙ ap t (e.cell (tuple at))

      coins_drawn : (j : ℕ) (zs : List (ℕ × ℕ)) (cs : List Tree) → AreCoinsApt r rs j zs cs → AllByRecursion (TermAssigned g at m) cs → AreDrawn g at m t (record { tuple = tuple at; site = j }) zs cs
      coins_drawn j [] [] e a = tt
      coins_drawn j (z ∷ zs) (c ∷ cs) e a = (coin_value j z.0 c e.0 a.0, coins_drawn j zs cs e.1 a.1)
      coins_drawn j [] (c ∷ cs) e a = absurd e
      coins_drawn j (z ∷ zs) [] e a = absurd e

    many_names : (j : ℕ) (zs xs : List (ℕ × ℕ)) (cs ms : List Tree) → AreCoinsApt r rs j zs cs → AreAsMany xs ms → AsMany (map (λ (x : ℕ × ℕ). x.0) (zs ++ xs)) (cs ++ ms)
    unfolding AsMany
    many_names j [] [] [] [] e f = tt
    many_names j [] (x ∷ xs) [] (m ∷ ms) e f = many_names j [] xs [] ms e f
    many_names j (z ∷ zs) xs (c ∷ cs) ms e f = many_names j zs xs cs ms e.1 f
    many_names j [] [] [] (m ∷ ms) e f = absurd f
    many_names j [] (x ∷ xs) [] [] e f = absurd f
    many_names j [] xs (c ∷ cs) ms e f = absurd e
    many_names j (z ∷ zs) xs [] ms e f = absurd e

    -- one call

    abbrev call_here : (y : Memory) (j : ℕ) → Instance → OracleCall
    call_here y j I = record { key = key_tuple h (record { indices = at; memory = y }) I.key; number = record { tuple = tuple at; site = j }; arguments = values h at y.store (chain I.arguments) }

    call_value : (y : Memory) → KeptStores r t m y.store → (j : ℕ) (s : Site) → IsSiteApt r rs j s → TermAssigned g at m s.term → (reply (oracles r i) t y.arrays (call_here y j s.call.instance)).value ≡ value g at m s.term
    call_value y kept j s e a =
        let I : Instance = s.call.instance in
        let f : Function = s.call.function in
        let assigned = instance_assigned r.scene.declarations (matching r).group f I e.left (many_names j f.coins f.arguments I.coins I.arguments e.coins e.many) g at m (subst (TermAssigned g at m) (sym e.body) a) in
        answered r.scene.declarations (oracles r i) f I at m t y.arrays (call_here y j I) refl (constant_none g V rs at k) e.left (e.called i (record { tuple = tuple at; site = j }) refl)
        (record {
          key = key_value y kept I.key e.key e.key_indices assigned.0;
          coins = coins_drawn y kept j f.coins I.coins e.coins assigned.1;
          many = e.many;
          arguments = values_agree g at (is_plain r) m y.store kept.plain (chain I.arguments) e.arguments ∙ sym (values_same g h.side at y.store (chain I.arguments));
        })
        ∙ ap (value g at m) e.body

    -- the calls of a list of sites

    abbrev pub Later : ℕ → Store → Store → Type 0
    Later j x n = (l : ℕ) (w : List ℕ) → l < j → n (r.answer l) w ≡ x (r.answer l) w

    other_answer : (l j : ℕ) → l < j → j < length (sites r) → (r.answer l == r.answer j) ≡ false
    other_answer l j e f = go (r.answer l == r.answer j) refl
      where
        go : (b : Bool) → (r.answer l == r.answer j) ≡ b → b ≡ false
        go true z = absurd (let same : l ≡ j = fine.answers l j (omega arith) f (eqb-true _ _ z) in omega arith)
        go false z = refl

    pub calls_served : (P : Served → Type 0) (T : Tree) (ss : List Site) (j : ℕ) (y : Memory) → KeptStores r t m y.store → AreSitesApt r rs j ss → AllByRecursion (λ (s : Site). TermAssigned g at m s.term) ss
        → ((x : Memory) → KeptStores r t m x.store → x.events ≡ y.events → Later j y.store x.store → AreAnswered r g at m x.store j ss → (q l : ℕ) (ws : List ℕ) → P (serve h t T q l ws (record { indices = at; memory = x })))
        → (q l : ℕ) (ws : List ℕ) → P (serve h t (after_calls r.answer j ss T) q l ws (record { indices = at; memory = y }))
    unfolding serve step
    calls_served P T [] j y kept e a go q l ws = go y kept refl (λ n w z. refl) tt q l ws
    calls_served P T (s ∷ ss) j y kept e a go q l ws =
        let value_is = call_value y kept j s e.0 a.0 in
        let rep : OracleAnswer = reply (oracles r i) t y.arrays (call_here y j s.call.instance) in
        let y1 : Memory = record y { store = put y.store (r.answer j) (tuple at) rep.value; arrays = rep.arrays } in
        calls_served P T ss (suc j) y1 (put_answer r t m y.store (r.answer j) (tuple at) rep.value fine.key_answer (answers_are r j e.0.listed) kept) e.1 a.1
        (λ x kx ev later ans. go x kx ev
        (λ n w z. later n w (omega arith) ∙ put_other y.store (r.answer j) (tuple at) rep.value (r.answer n) w (λ same _. both_ways _ (other_answer n j z e.0.listed) same))
        (e.0.listed, later j (tuple at) (omega arith) ∙ put_here y.store (r.answer j) (tuple at) rep.value ∙ ap Some value_is, ans))
        _ 0 []
