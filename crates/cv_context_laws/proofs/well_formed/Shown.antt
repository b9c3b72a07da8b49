-- So becomes each tree of an apt game.
use Rattle.std.proofs.Common.{◌≡◌, ℕ, suc, ◌+◌, ◌≤◌, Bool, true, false, cond, not, ◌&&◌, ◌==◌, List, [], ◌∷◌, ◌++◌, map, length, Option, Some, None, refl, sym, ap, ap₂, subst, ◌∙◌, arith}
use Rattle.std.proofs.lemmas.Bool.{and_parts, both_ways}
use Rattle.std.proofs.lemmas.List.{length-append}
use Rattle.std.specs.List.{AllByRecursion}
use Rattle.cv_syntax_trees.specs.declared.head.Head.{Head}
use Rattle.cv_syntax_trees.specs.declared.head.Head.TheVariants.{Stop, Yield, Par, Repl, In, Out, Event, New, Let, If, Find, Branch, Leaf, Read, Apply, Eq, And, Or, Not, Yes, No, Cons, Binder, Name, Key}
use Rattle.cv_syntax_trees.specs.Tree.{Tree, Empty, Node, chain, first_place, second, second_place}
use Rattle.cv_meaning.specs.Binders.{bound_names}
use Rattle.cv_syntax_trees.specs.sites.Sites.{site_here}
use Rattle.cv_scope_rules.specs.Context.{cell_of, first_position, index_terms, replications_below, second_position}
use Rattle.cv_scope_rules.specs.Phrases.{Phrase, Arm, Binders, Body, Branches, Cells, Else, Guarded, Guards, Indices as Names, Inputs, Message, Nil, OneCell, Pattern, Term, Terms, Then, is_phrase, parts}
use Rattle.cv_scope_rules.specs.Sites.{Variable, channel_here, site_of, sites_here, variable_sites}
use Rattle.cv_scope_rules.specs.declared.position.Position.{Position}
use Rattle.cv_scope_rules.specs.declared.position.Position.TheVariants as position
use Rattle.cv_scope_runs.proofs.Rows.{walks}
use Rattle.cv_scene.specs.Instances.{Call, call_at}
use Rattle.cv_scene.specs.Sites.{Site, is_guard, sites_in}
use Rattle.cv_scene.specs.Contexts.{after_calls, call_terms, in_context, is_statement}
use Rattle.cv_scene.specs.LeftTerms.{HasLeftTerms}
use Rattle.cv_scene.specs.Reductions.{Reduction, context_of_game, is_answer, is_coin, is_plain, matching, sites}
use Rattle.cv_scene.specs.Apt.{IsApt, IsAptGame, has_value, inside, sites_inside}
use Rattle.cv_match_laws.proofs.values.Numbers.{context, count_sites}
use Rattle.cv_context_laws.proofs.shape.Terms.{children}
use Rattle.cv_context_runs.proofs.visits.Nodes.{binders_in, by_call, empty_in, node_by, node_in, pattern_in, plain_node}
use Rattle.cv_context_laws.proofs.well_formed.Becoming.{AreCalls, none, call, Becomes, still, node, coin, key, statement, IsNoAnswer, Stays, is_still, is_still_head}
use Rattle.cv_context_laws.proofs.well_formed.Given.{call_has, sites_have}
use Rattle.cv_syntax_trees.proofs.lists.Tests.{false_from_not}
use Rattle.cv_syntax_trees.proofs.lists.Each.{AllByRecursion_append}

-- phrases of terms and of lists

abbrev pub AreStillParts : Head → Option (Phrase × Phrase) → Type 0
AreStillParts h None = Unit {0}
AreStillParts h (Some q) = (is_still_head h ≡ true) × (walks q.0 ≡ false) × (walks q.1 ≡ false)

pub still_parts : (σ : Phrase) (h : Head) → walks σ ≡ false → AreStillParts h (parts σ h)
still_parts Inputs h w = absurd (both_ways _ w refl)
still_parts Body h w = absurd (both_ways _ w refl)
still_parts Then h w = absurd (both_ways _ w refl)
still_parts Else h w = absurd (both_ways _ w refl)
still_parts Branches h w = absurd (both_ways _ w refl)
still_parts Arm h w = absurd (both_ways _ w refl)
still_parts Guards h w = absurd (both_ways _ w refl)
still_parts Guarded h w = absurd (both_ways _ w refl)
still_parts Pattern Cons w = (refl, refl, refl)
still_parts Message Cons w = (refl, refl, refl)
still_parts Names (Name i) w = (refl, refl, refl)
still_parts Binders (Binder x T) w = (refl, refl, refl)
still_parts Cells Cons w = (refl, refl, refl)
still_parts OneCell (Leaf x) w = (refl, refl, refl)
still_parts OneCell (Read x) w = (refl, refl, refl)
still_parts Terms Cons w = (refl, refl, refl)
still_parts Term (Leaf x) w = (refl, refl, refl)
still_parts Term (Read x) w = (refl, refl, refl)
still_parts Term (Apply f) w = (refl, refl, refl)
still_parts Term Eq w = (refl, refl, refl)
still_parts Term And w = (refl, refl, refl)
still_parts Term Or w = (refl, refl, refl)
still_parts Term Not w = (refl, refl, refl)
still_parts Term Yes w = (refl, refl, refl)
still_parts Term No w = (refl, refl, refl)
still_parts σ h w = tt

pub phrase_still : (t : Tree) (σ : Phrase) → walks σ ≡ false → is_phrase σ t ≡ true → is_still t ≡ true
unfolding is_still
phrase_still Empty σ w e = refl
phrase_still (Node h a b) σ w e =
    let c = children σ h a b e in
    let s = subst (AreStillParts h) c.row (still_parts σ h w) in
    ap₂ ◌&&◌ s.0 (ap₂ ◌&&◌ (phrase_still a c.first s.1 c.in_first) (phrase_still b c.second s.2 c.in_second))

pub still_inner : (h : Head) (a b : Tree) → is_still (Node h a b) ≡ true → (is_still a ≡ true) × (is_still b ≡ true)
unfolding is_still
still_inner h a b e = and_parts (is_still a) (is_still b) (and_parts (is_still_head h) _ e).1

pub chain_still : (ms : List Tree) → AllByRecursion (λ m. is_still m ≡ true) ms → is_still (chain ms) ≡ true
unfolding is_still
chain_still [] h = refl
chain_still (m ∷ ms) h = ap₂ ◌&&◌ h.0 (chain_still ms h.1)

pub call_still : (k : Tree) (ms : List Tree) → is_still k ≡ true → AllByRecursion (λ m. is_still m ≡ true) ms → is_still (Node Cons k (chain ms)) ≡ true
unfolding is_still
call_still k ms e h = ap₂ ◌&&◌ e (chain_still ms h)

indices_still : (rs : List (ℕ × ℕ)) → is_still (index_terms rs) ≡ true
unfolding is_still
indices_still [] = refl
indices_still (q ∷ rs) = indices_still rs

pub cell_still : (rs : List (ℕ × ℕ)) (x : ℕ) → is_still (cell_of rs x) ≡ true
unfolding is_still
cell_still [] x = refl
cell_still (q ∷ rs) x = ap₂ ◌&&◌ (indices_still (q ∷ rs)) refl

pub plain_no_answer : (r : Reduction) (x : ℕ) → is_plain r x ≡ true → is_answer r x ≡ false
plain_no_answer r x e = false_from_not (is_answer r x) (and_parts (not (is_coin r x)) _ (and_parts (not (x == r.key)) _ e).1).1

binders_answers : (r : Reduction) (rs : List (ℕ × ℕ)) (p : ℕ) (xs : List ℕ) → AllByRecursion (λ x. is_plain r x ≡ true) xs → AllByRecursion (IsNoAnswer r) (map (λ x. site_of rs p (Variable x)) xs)
binders_answers r rs p [] h = tt
binders_answers r rs p (x ∷ xs) h = (plain_no_answer r x h.0, binders_answers r rs p xs h.1)

-- what says nothing of its first child
abbrev is_free : Head → Bool
is_free (In c) = false
is_free Branch = false
is_free h = true

free_sites : (rs : List (ℕ × ℕ)) (p : ℕ) (h : Head) (a c : Tree) → is_free h ≡ true → sites_here rs p h c ≡ sites_here rs p h a
free_sites rs p (In x) a c e = absurd (both_ways false refl e)
free_sites rs p Branch a c e = absurd (both_ways false refl e)
free_sites rs p h a c e = refl

free_made : (x : ℕ) (h : Head) (a c : Tree) → is_free h ≡ true → site_here x h c ≡ site_here x h a
free_made x (In y) a c e = absurd (both_ways false refl e)
free_made x Branch a c e = absurd (both_ways false refl e)
free_made x h a c e = refl

still_plain : (r : Reduction) (j : ℕ) (h : Head) (ss : List Site) (a b : Tree) → is_still_head h ≡ true → after_calls r.answer j (cond (is_statement h) ss []) (in_context (matching r) (is_coin r) h a b) ≡ Node h a b
still_plain r j (Leaf x) ss a b e = refl
still_plain r j (Read x) ss a b e = refl
still_plain r j (Apply f) ss a b e = refl
still_plain r j Eq ss a b e = refl
still_plain r j And ss a b e = refl
still_plain r j Or ss a b e = refl
still_plain r j Not ss a b e = refl
still_plain r j Yes ss a b e = refl
still_plain r j No ss a b e = refl
still_plain r j Cons ss a b e = refl
still_plain r j (Name i) ss a b e = refl
still_plain r j (Binder x T) ss a b e = refl
still_plain r j h ss a b e = absurd (both_ways false refl e)

module _ (r : Reduction) (apt : IsAptGame r) (left : HasLeftTerms r.scene.declarations (matching r).group) where
  pub context_still : (w : Position) (rs : List (ℕ × ℕ)) (j : ℕ) (t : Tree) → is_still t ≡ true → is_still (context r w rs j t) ≡ true
  unfolding is_still
  context_still w rs j Empty e = subst (λ u. is_still u ≡ true) (sym (empty_in r w rs j)) refl
  context_still w rs j (Node h a b) e =
      let u = and_parts (is_still_head h) _ e in
      let v = and_parts (is_still a) (is_still b) u.1 in
      subst (λ u. is_still u ≡ true) (sym (node_by r w rs j h a b))
      (go (call_at (matching r) (Node h a b)) u.0 (guarded (is_guard w) v.0 (context_still (first_position w h) rs j a v.0)) (context_still (second_position w h) (replications_below h rs) (j + length (inside r w rs h a)) b v.1))
    where
      guarded : (z : Bool) → is_still a ≡ true → is_still (context r (first_position w h) rs j a) ≡ true → is_still (cond z a (context r (first_position w h) rs j a)) ≡ true
      guarded true f g = f
      guarded false f g = g

      go : (o : Option Call) → is_still_head h ≡ true → is_still (cond (is_guard w) a (context r (first_position w h) rs j a)) ≡ true → is_still (context r (second_position w h) (replications_below h rs) (j + length (inside r w rs h a)) b) ≡ true → is_still (by_call o (cell_of rs (r.answer j)) (plain_node r w rs j h a b)) ≡ true
      go (Some c) s f g = cell_still rs (r.answer j)
      go None s f g = subst (λ u. is_still u ≡ true) (sym (still_plain r j h (inside r w rs h a) _ _ s)) (ap₂ ◌&&◌ s (ap₂ ◌&&◌ f g))

  abbrev count : Position → List (ℕ × ℕ) → Tree → ℕ
  count w rs t = length (sites_in (matching r) w rs 0 t)

  abbrev Shown : Position → List (ℕ × ℕ) → ℕ → Tree → Type 0
  Shown w rs j t = Becomes r w rs j (j + count w rs t) t (context r w rs j t)

  pub count_node : (w : Position) (rs : List (ℕ × ℕ)) (h : Head) (a b : Tree) → call_at (matching r) (Node h a b) ≡ None → count w rs (Node h a b) ≡ length (inside r w rs h a) + count (second_position w h) (replications_below h rs) b
  unfolding sites_in
  count_node w rs h a b e = go (call_at (matching r) (Node h a b)) e (is_guard w)
    where
      clash : {A : Type 0} (c : Call) → ◌≡◌ {A = Option Call} (Some c) None → A
      clash c e = absurd (no e)
        where
          no : ◌≡◌ {A = Option Call} (Some c) None → ⊥
          no e = cc

      go : (o : Option Call) → o ≡ None → (z : Bool) → length (elim o as (λ _. List Site) [
        | Some c ↦ record { place = 0; term = Node h a b; replications = rs; call = c } ∷ []
        | None ↦ cond z [] (sites_in (matching r) (first_position w h) rs (first_place 0 h) a) ++ sites_in (matching r) (second_position w h) (replications_below h rs) (second_place 0 h a) b
      ]) ≡ length (cond z [] (sites_in (matching r) (first_position w h) rs 0 a)) + count (second_position w h) (replications_below h rs) b
      go (Some c) e z = clash c e
      go None e true = let f = count_sites (matching r) (second_position w h) (replications_below h rs) b (second_place 0 h a) 0 in omega (arith, f)
      go None e false =
          length-append (sites_in (matching r) (first_position w h) rs (first_place 0 h) a) (sites_in (matching r) (second_position w h) (replications_below h rs) (second_place 0 h a) b)
          ∙ ap₂ ◌+◌ (count_sites (matching r) (first_position w h) rs a (first_place 0 h) 0) (count_sites (matching r) (second_position w h) (replications_below h rs) b (second_place 0 h a) 0)

  at_node : (w : Position) (rs : List (ℕ × ℕ)) (j : ℕ) (h : Head) (a b : Tree) → has_value (Node h a b) ≡ false
      → Becomes r w rs j (j + length (inside r w rs h a) + count (second_position w h) (replications_below h rs) b) (Node h a b) (plain_node r w rs j h a b)
      → Shown w rs j (Node h a b)
  at_node w rs j h a b v m =
      let e = count_node w rs h a b (apt.terms (Node h a b) v) in
      let f : j + length (inside r w rs h a) + count (second_position w h) (replications_below h rs) b ≡ j + count w rs (Node h a b) = omega (arith, e) in
      subst (λ u. Becomes r w rs j (j + count w rs (Node h a b)) (Node h a b) u) (sym (node_in r apt.terms w rs j h a b v)) (subst (λ k. Becomes r w rs j k (Node h a b) (plain_node r w rs j h a b)) f m)

  -- what stays as it is
  same_shown : (w : Position) (rs : List (ℕ × ℕ)) (j : ℕ) (a : Tree) → is_still a ≡ true → context r w rs j a ≡ a → Shown w rs j a
  same_shown w rs j a s e = subst (λ u. Becomes r w rs j (j + count w rs a) a u) (sym e) (still (omega arith) s)

  empty_shown : (w : Position) (rs : List (ℕ × ℕ)) (j : ℕ) → Shown w rs j Empty
  unfolding is_still
  empty_shown w rs j = same_shown w rs j Empty refl (empty_in r w rs j)

  nil_shown : (w : Position) (rs : List (ℕ × ℕ)) (j : ℕ) (a : Tree) → is_phrase Nil a ≡ true → Shown w rs j a
  unfolding is_phrase
  nil_shown w rs j Empty e = empty_shown w rs j
  nil_shown w rs j (Node h a b) e = absurd (both_ways false refl e)

  stays : (h : Head) (a c : Tree) → is_free h ≡ true → ((rs : List (ℕ × ℕ)) (p : ℕ) → AllByRecursion (IsNoAnswer r) (sites_here rs p h a)) → Stays r h a c
  stays h a c e n = record { sites = λ rs p. free_sites rs p h a c e; made = λ x. free_made x h a c e; answers = n }

  calls_shown : (ss : List Site) (j : ℕ) (d : Tree) → AllByRecursion (λ (s : Site). is_still (call_terms s.call.instance) ≡ true) ss → AreCalls r j (j + length ss) d (after_calls r.answer j ss d)
  calls_shown [] j d h = subst (λ k. AreCalls r j k d d) (omega arith) none
  calls_shown (s ∷ ss) j d h = let e : suc j + length ss ≡ j + suc (length ss) = omega arith in subst (λ k. AreCalls r j k d (after_calls r.answer j (s ∷ ss) d)) e (call h.0 (calls_shown ss (suc j) d h.1))

  statement_shown : (σ : Phrase) (h : Head) (rs : List (ℕ × ℕ)) (j k : ℕ) (a b d : Tree) → walks σ ≡ false → is_phrase σ a ≡ true → is_free h ≡ true → ((qs : List (ℕ × ℕ)) (p : ℕ) → AllByRecursion (IsNoAnswer r) (sites_here qs p h a))
      → Becomes r (second_position position.Anywhere h) (replications_below h rs) (j + length (sites_inside r rs a)) k b d
      → Becomes r position.Anywhere rs j k (Node h a b) (after_calls r.answer j (sites_inside r rs a) (Node h (context r position.Anywhere rs j a) d))
  statement_shown σ h rs j k a b d w e f n m =
      let s = phrase_still a σ w e in
      statement (stays h a (context r position.Anywhere rs j a) f n) s (context_still position.Anywhere rs j a s) m
      (calls_shown (sites_inside r rs a) j (Node h (context r position.Anywhere rs j a) d)
      (sites_have (λ t. is_still t ≡ true) still_inner (matching r) (λ c. is_still (call_terms c.instance) ≡ true)
      (λ t c q z. let x = call_has (λ t. is_still t ≡ true) still_inner r.scene.declarations (matching r) t c left q z in call_still c.instance.key c.instance.arguments x.0 x.1)
      position.Anywhere rs 0 a s))

  drawn : (v T : ℕ) (rs : List (ℕ × ℕ)) (i j k : ℕ) (a b c d : Tree) → is_still a ≡ true → is_answer r v ≡ false → j ≤ i → Becomes r position.Anywhere rs j i a c → Becomes r position.Anywhere rs i k b d → Becomes r position.Anywhere rs j k (Node (New v T) a b) (in_context (matching r) (is_coin r) (New v T) c d)
  drawn v T rs i j k a b c d s n l f g = by (v == r.key) (is_coin r v)
    where
      by : (p q : Bool) → Becomes r position.Anywhere rs j k (Node (New v T) a b) (cond p (Node (Key v) Empty d) (cond q d (Node (New v T) c d)))
      by true q = key s n l g
      by false true = coin s n l g
      by false false = node (stays (New v T) a c refl (λ rs p. (n, tt))) f g

  mutual
    unfolding is_phrase IsApt

    inputs_shown : (t : Tree) (rs : List (ℕ × ℕ)) (j : ℕ) → is_phrase Inputs t ≡ true → IsApt r Inputs rs j t → Shown position.Anywhere rs j t
    inputs_shown (Node Stop a b) rs j e s =
        let p = and_parts (is_phrase Nil a) _ e in at_node position.Anywhere rs j Stop a b refl (node (stays Stop a _ refl (λ rs p. tt)) (nil_shown position.Anywhere rs j a p.0) (nil_shown position.Anywhere rs _ b p.1))
    inputs_shown (Node Par a b) rs j e s =
        let p = and_parts (is_phrase Inputs a) _ e in at_node position.Anywhere rs j Par a b refl (node (stays Par a _ refl (λ rs p. tt)) (inputs_shown a rs j p.0 s.1.0) (inputs_shown b rs _ p.1 s.1.1))
    inputs_shown (Node (Repl x n) a b) rs j e s =
        let p = and_parts (is_phrase Nil a) _ e in at_node position.Anywhere rs j (Repl x n) a b refl (node (stays (Repl x n) a _ refl (λ rs p. tt)) (nil_shown position.Anywhere rs j a p.0) (inputs_shown b _ _ p.1 s.1.1))
    inputs_shown (Node (In c) a b) rs j e s =
        let p = and_parts (is_phrase Pattern a) _ e in
        let same = pattern_in r apt.terms rs j a p.0 in
        at_node position.Anywhere rs j (In c) a b refl
        (node (record {
          sites = λ rs q. ap (λ u. sites_here rs q (In c) u) same;
          made = λ x. ap (λ u. site_here x (In c) u) same;
          answers = λ rs q. AllByRecursion_append (IsNoAnswer r) (variable_sites rs q (second a)) (channel_here rs q (In c) a) (binders_answers r rs q (bound_names (second a)) s.0) (refl, tt);
        }) (same_shown position.Anywhere rs j a (phrase_still a Pattern refl p.0) same) (body_shown b rs _ p.1 s.1.1))
    inputs_shown t rs j e s = absurd (both_ways false refl e)

    body_shown : (t : Tree) (rs : List (ℕ × ℕ)) (j : ℕ) → is_phrase Body t ≡ true → IsApt r Body rs j t → Shown position.Anywhere rs j t
    body_shown (Node Yield a b) rs j e s =
        let p = and_parts (is_phrase Nil a) _ e in at_node position.Anywhere rs j Yield a b refl (node (stays Yield a _ refl (λ rs p. tt)) (nil_shown position.Anywhere rs j a p.0) (nil_shown position.Anywhere rs _ b p.1))
    body_shown (Node (New v T) a b) rs j e s =
        let p = and_parts (is_phrase Nil a) _ e in at_node position.Anywhere rs j (New v T) a b refl (drawn v T rs _ j _ a b _ _ (phrase_still a Nil refl p.0) s.0 (omega arith) (nil_shown position.Anywhere rs j a p.0) (body_shown b rs _ p.1 s.1.1))
    body_shown (Node (Let v T) a b) rs j e s =
        let p = and_parts (is_phrase Term a) _ e in
        at_node position.Anywhere rs j (Let v T) a b refl (statement_shown Term (Let v T) rs j _ a b _ refl p.0 refl (λ rs p. (plain_no_answer r v s.0.0, tt)) (body_shown b rs _ p.1 s.1.1))
    body_shown (Node (Event v) a b) rs j e s =
        let p = and_parts (is_phrase Terms a) _ e in at_node position.Anywhere rs j (Event v) a b refl (statement_shown Terms (Event v) rs j _ a b _ refl p.0 refl (λ rs p. tt) (body_shown b rs _ p.1 s.1.1))
    body_shown (Node If a b) rs j e s =
        let p = and_parts (is_phrase Term a) _ e in at_node position.Anywhere rs j If a b refl (statement_shown Term If rs j _ a b _ refl p.0 refl (λ rs p. tt) (then_shown b rs _ p.1 s.1.1))
    body_shown (Node (Out c) a b) rs j e s =
        let p = and_parts (is_phrase Message a) _ e in at_node position.Anywhere rs j (Out c) a b refl (statement_shown Message (Out c) rs j _ a b _ refl p.0 refl (λ rs p. tt) (inputs_shown b rs _ p.1 s.1.1))
    body_shown (Node (Find l) a b) rs j e s =
        let p = and_parts (is_phrase Branches a) _ e in at_node position.Anywhere rs j (Find l) a b refl (node (stays (Find l) a _ refl (λ rs p. (refl, tt))) (branches_shown a rs j p.0 s.1.0) (body_shown b rs _ p.1 s.1.1))
    body_shown t rs j e s = absurd (both_ways false refl e)

    then_shown : (t : Tree) (rs : List (ℕ × ℕ)) (j : ℕ) → is_phrase Then t ≡ true → IsApt r Then rs j t → Shown position.Bodies rs j t
    then_shown (Node Cons a b) rs j e s =
        let p = and_parts (is_phrase Body a) _ e in at_node position.Bodies rs j Cons a b refl (node (stays Cons a _ refl (λ rs p. tt)) (body_shown a rs j p.0 s.1.0) (else_shown b rs _ p.1 s.1.1))
    then_shown t rs j e s = absurd (both_ways false refl e)

    else_shown : (t : Tree) (rs : List (ℕ × ℕ)) (j : ℕ) → is_phrase Else t ≡ true → IsApt r Else rs j t → Shown position.ElseBody rs j t
    else_shown (Node Cons a b) rs j e s =
        let p = and_parts (is_phrase Body a) _ e in at_node position.ElseBody rs j Cons a b refl (node (stays Cons a _ refl (λ rs p. tt)) (body_shown a rs j p.0 s.1.0) (nil_shown position.Anywhere rs _ b p.1))
    else_shown t rs j e s = absurd (both_ways false refl e)

    branches_shown : (t : Tree) (rs : List (ℕ × ℕ)) (j : ℕ) → is_phrase Branches t ≡ true → IsApt r Branches rs j t → Shown position.Branches rs j t
    branches_shown Empty rs j e s = empty_shown position.Branches rs j
    branches_shown (Node Cons a b) rs j e s =
        let p = and_parts (is_phrase Arm a) _ e in at_node position.Branches rs j Cons a b refl (node (stays Cons a _ refl (λ rs p. tt)) (arm_shown a rs j p.0 s.1.0) (branches_shown b rs _ p.1 s.1.1))
    branches_shown t rs j e s = absurd (both_ways false refl e)

    arm_shown : (t : Tree) (rs : List (ℕ × ℕ)) (j : ℕ) → is_phrase Arm t ≡ true → IsApt r Arm rs j t → Shown position.Anywhere rs j t
    arm_shown (Node Branch a b) rs j e s =
        let p = and_parts (is_phrase Binders a) _ e in
        let same = binders_in r apt.terms rs j a p.0 in
        at_node position.Anywhere rs j Branch a b refl
        (node (record {
          sites = λ rs q. ap (λ u. sites_here rs q Branch u) same;
          made = λ x. ap (λ u. site_here x Branch u) same;
          answers = λ rs q. AllByRecursion_append (IsNoAnswer r) (variable_sites rs q a) [] (binders_answers r rs q (bound_names a) s.0) tt;
        }) (same_shown position.Anywhere rs j a (phrase_still a Binders refl p.0) same) (guards_shown b rs _ p.1 s.1.1))
    arm_shown t rs j e s = absurd (both_ways false refl e)

    guards_shown : (t : Tree) (rs : List (ℕ × ℕ)) (j : ℕ) → is_phrase Guards t ≡ true → IsApt r Guards rs j t → Shown position.Guards rs j t
    guards_shown (Node Cons a b) rs j e s =
        let p = and_parts (is_phrase Cells a) _ e in at_node position.Guards rs j Cons a b refl (node (stays Cons a a refl (λ rs p. tt)) (still (omega arith) (phrase_still a Cells refl p.0)) (guarded_shown b rs _ p.1 s.1.1))
    guards_shown t rs j e s = absurd (both_ways false refl e)

    guarded_shown : (t : Tree) (rs : List (ℕ × ℕ)) (j : ℕ) → is_phrase Guarded t ≡ true → IsApt r Guarded rs j t → Shown position.Guarded rs j t
    guarded_shown (Node Cons a b) rs j e s =
        let p = and_parts (is_phrase Term a) _ e in at_node position.Guarded rs j Cons a b refl (node (stays Cons a a refl (λ rs p. tt)) (still (omega arith) (phrase_still a Term refl p.0)) (body_shown b rs _ p.1 s.1.1))
    guarded_shown t rs j e s = absurd (both_ways false refl e)

  pub context_becomes : Becomes r position.Anywhere [] 0 (length (sites r)) r.scene.game (context_of_game r).game
  context_becomes = subst (λ k. Becomes r position.Anywhere [] 0 k r.scene.game (context_of_game r).game) (omega arith) (inputs_shown r.scene.game [] 0 apt.formed.phrase apt.apt)
