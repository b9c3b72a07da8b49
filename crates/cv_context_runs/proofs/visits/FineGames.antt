-- The context of an apt game has the shape that a next game can follow.
use Rattle.std.proofs.Common.{◌≡◌, ℕ, suc, ◌+◌, ◌<◌, Bool, true, false, cond, not, ◌&&◌, ◌||◌, ◌==◌, List, [], ◌∷◌, ◌++◌, ◌⊎◌, inl, inr, length, Option, Some, None, refl, sym, ap, subst, ◌∙◌, eqb-true, eq-eqb, arith, ap₂, ◌≢◌}
use Rattle.std.proofs.lemmas.Bool.{and_parts, both_ways, eqb-false, or_left, or_right}
use Rattle.cv_syntax_trees.specs.declared.head.Head.{Head}
use Rattle.cv_syntax_trees.specs.declared.head.Head.TheVariants.{Stop, Yield, Par, Repl, In, Out, Event, New, Let, If, Find, Branch, Binder, Cons, Key}
use Rattle.cv_syntax_trees.specs.Tree.{Tree, Empty, Node, binds, second}
use Rattle.cv_scope_rules.specs.Made.{is_bound, made_by}
use Rattle.cv_scope_rules.specs.Phrases.{Arm, Binders, Body, Branches, Cells, Else, Guarded, Guards, Indices as Names, Inputs, Message, Nil, Pattern, Term, Terms, Then, is_phrase}
use Rattle.cv_scope_rules.specs.Sites.{Variable}
use Rattle.cv_scope_rules.specs.declared.position.Position.TheVariants as position
use Rattle.cv_scene.specs.Instances.{call_at}
use Rattle.cv_scene.specs.Sites.{Site, sites_in}
use Rattle.cv_scene.specs.Contexts.{after_calls}
use Rattle.cv_scene.specs.Reductions.{Reduction, context_of_game, is_answer, is_coin, is_plain, matching}
use Rattle.cv_scene.specs.Apt.{AreBindersPlain, IsApt, IsAptGame, has_value, inside}
use Rattle.cv_match_laws.proofs.values.Numbers.{context}
use Rattle.cv_meaning.specs.contexts.Inlined.{index_terms}
use Rattle.cv_meaning.specs.contexts.Roles.{Plain}
use Rattle.cv_inline.specs.NextGame.{Calling}
use Rattle.cv_inline_laws.specs.runs.Contexts.{Answers, IsAnswer, AreFineBranchesIn, AreFineInputs, IsFineContext}
use Rattle.cv_inline_laws.specs.runs.Texts.{Text}
use Rattle.cv_context_runs.specs.visits.CallTexts.{HasCallTexts}
use Rattle.cv_context_runs.specs.visits.Fine.{HasRolesOf, defines, has_free_indices, has_label, reads_no_call}
use Rattle.cv_context_runs.proofs.visits.Nodes.{arm, body_number, branch_in, empty_in, nil_in, node_in, pattern_in}
use Rattle.cv_context_runs.proofs.visits.FineTerms.{HasFrom, cells_fine, children_ordinary, message_fine, plain_fine, term_fine, terms_fine}

-- children of a node

children_roles : (T : Text) (r : Reduction) (h : Head) (a b : Tree) → HasRolesOf T r (Node h a b) → HasRolesOf T r a × HasRolesOf T r b
unfolding defines has_label
children_roles T r h a b k =
    let o = children_ordinary T r h a b k.ordinary in (
      record { ordinary = o.0; variables = λ x e. k.variables x (or_right _ _ (or_left (defines x a) (defines x b) e)); finds = λ l e. k.finds l (or_right _ _ (or_left (has_label l a) (has_label l b) e)) },
      record { ordinary = o.1; variables = λ x e. k.variables x (or_right _ _ (or_right (defines x a) (defines x b) e)); finds = λ l e. k.finds l (or_right _ _ (or_right (has_label l a) (has_label l b) e)) },
    )

children_free : (r : Reduction) (h : Head) (a b : Tree) → has_free_indices (matching r) (Node h a b) ≡ true → (has_free_indices (matching r) a ≡ true) × (has_free_indices (matching r) b ≡ true)
unfolding has_free_indices
children_free r h a b e = and_parts (has_free_indices (matching r) a) (has_free_indices (matching r) b) (and_parts (reads_no_call (matching r) h a) _ e).1

-- what a node defines is plain
defined_plain : (T : Text) (r : Reduction) (h : Head) (a b : Tree) → HasRolesOf T r (Node h a b) → (x : ℕ) → made_by h a (Variable x) ≡ true → is_plain r x ≡ true → T.role x ≡ Plain
unfolding defines
defined_plain T r h a b k x e p = k.variables x (or_left _ (defines x a || defines x b) e) p

nil_binds : (a : Tree) (y : ℕ) → is_phrase Nil a ≡ true → binds a y ≡ false
unfolding is_phrase binds
nil_binds Empty y f = refl
nil_binds (Node h a b) y f = absurd (both_ways _ refl f)

binders_plain : (r : Reduction) (bs : Tree) → is_phrase Binders bs ≡ true → AreBindersPlain r bs → (y : ℕ) → binds bs y ≡ true → (is_bound bs y ≡ true) × (is_plain r y ≡ true)
unfolding is_phrase binds is_bound
binders_plain r Empty f k y e = absurd (both_ways _ refl e)
binders_plain r (Node (Binder x T) a b) f k y e =
    let p = and_parts (is_phrase Nil a) _ f in
    go (y == x) refl (subst (λ c. ((y == x) || (c || binds b y)) ≡ true) (nil_binds a y p.0) e) (binders_plain r b p.1 k.1 y)
  where
    go : (c : Bool) → (y == x) ≡ c → (c || (false || binds b y)) ≡ true → (binds b y ≡ true → (is_bound b y ≡ true) × (is_plain r y ≡ true)) → ((c || is_bound b y) ≡ true) × (is_plain r y ≡ true)
    go true i e ih = (refl, subst (λ z. is_plain r z ≡ true) (sym (eqb-true y x i)) k.0)
    go false i e ih = ih e
binders_plain r (Node h a b) f k y e = absurd (both_ways _ refl f)

pattern_binders : (a : Tree) → is_phrase Pattern a ≡ true → is_phrase Binders (second a) ≡ true
unfolding is_phrase
pattern_binders Empty f = absurd (both_ways _ refl f)
pattern_binders (Node Cons a b) f = (and_parts (is_phrase Names a) _ f).1
pattern_binders (Node h a b) f = absurd (both_ways _ refl f)

-- the parts of a branch

arm_of : (a more : Tree) → is_phrase Branches (Node Cons a more) ≡ true → is_phrase Arm a ≡ true
unfolding is_phrase
arm_of a more e = (and_parts (is_phrase Arm a) (is_phrase Branches more) e).0

guards_of : (us rest more : Tree) → is_phrase Branches (Node Cons (Node Branch us rest) more) ≡ true → is_phrase Guards rest ≡ true
unfolding is_phrase
guards_of us rest more e = (and_parts (is_phrase Binders us) (is_phrase Guards rest) (arm_of (Node Branch us rest) more e)).1

guarded_of : (us cells rest more : Tree) → is_phrase Branches (Node Cons (Node Branch us (Node Cons cells rest)) more) ≡ true → is_phrase Guarded rest ≡ true
unfolding is_phrase
guarded_of us cells rest more e = (and_parts (is_phrase Cells cells) (is_phrase Guarded rest) (guards_of us (Node Cons cells rest) more e)).1

abbrev is_list : Tree → Bool
is_list (Node Cons a b) = true
is_list t = false

no_message : (a : Tree) → is_phrase Message a ≡ true → is_list a ≡ true
unfolding is_phrase
no_message Empty e = absurd (both_ways _ refl e)
no_message (Node Cons a b) e = refl
no_message (Node h a b) e = absurd (both_ways _ refl e)

module _ (T : Text) (r : Reduction) where
  -- calls before a statement

  same_calling : (c d : Calling) → ◌≡◌ {A = Option Calling} (Some c) (Some d) → c ≡ d
  same_calling c d e = cc

  behind_calls : (rs : List (ℕ × ℕ)) (ss : List Site) (first j : ℕ) (o : Answers) (t : Tree) → HasFrom T r o rs first j → HasCallTexts T rs (after_calls r.answer j ss t)
      → ((all : Answers) → HasFrom T r all rs first (j + length ss) → HasCallTexts T rs t → IsFineContext T all t) → IsFineContext T o (after_calls r.answer j ss t)
  unfolding IsFineContext HasCallTexts
  behind_calls rs [] first j o t has texts fine = fine o (subst (HasFrom T r o rs first) (let e : j ≡ j + 0 = omega arith in e) has) texts
  behind_calls rs (s ∷ ss) first j o t has texts fine = λ c q.
      subst (λ qs. IsFineContext T ((r.answer j, index_terms qs) ∷ o) (after_calls r.answer (suc j) ss t)) (sym texts.0.replications ∙ ap (λ (d : Calling). d.caller.replications) (same_calling texts.0.calling c (sym texts.0.at_site ∙ q)))
      (behind_calls rs ss first (suc j) ((r.answer j, index_terms rs) ∷ o) t more texts.2
      (λ all h z. fine all (subst (HasFrom T r all rs first) (let e : suc j + length ss ≡ j + length (s ∷ ss) = omega arith in e) h) z))
    where
      more : HasFrom T r ((r.answer j, index_terms rs) ∷ o) rs first (suc j)
      more i l m = go (i == j) refl
        where
          go : (b : Bool) → (i == j) ≡ b → ((r.answer j ≡ r.answer i) × (index_terms rs ≡ index_terms rs)) ⊎ IsAnswer o (r.answer i) (index_terms rs)
          go true e = inl (ap r.answer (sym (eqb-true i j e)), refl)
          go false e = inr (has i l (let n : i ≢ j = eqb-false i j e in let w : i < j = omega arith in w))

  none_from : (rs : List (ℕ × ℕ)) (j : ℕ) → HasFrom T r [] rs j j
  none_from rs j i l m = absurd (let w : j < j = omega arith in omega (arith, w))

  module _ (terms : (t : Tree) → has_value t ≡ false → call_at (matching r) t ≡ None) (key : T.calls.key ≡ r.key) where
    abbrev here : List (ℕ × ℕ) → ℕ → Tree → Tree
    here rs j t = context r position.Anywhere rs j t

    -- what is drawn: the key, a coin or a variable
    drawn_fine : (x S : ℕ) (rs : List (ℕ × ℕ)) (A B : Tree) → is_answer r x ≡ false → (is_plain r x ≡ true → T.role x ≡ Plain) → HasCallTexts T rs (cond (x == r.key) (Node (Key x) Empty B) (cond (is_coin r x) B (Node (New x S) A B)))
        → (HasCallTexts T rs B → IsFineContext T [] B) → IsFineContext T [] (cond (x == r.key) (Node (Key x) Empty B) (cond (is_coin r x) B (Node (New x S) A B)))
    unfolding IsFineContext HasCallTexts
    drawn_fine x S rs A B na role texts fine = go (x == r.key) refl (is_coin r x) refl texts
      where
        go : (b : Bool) → (x == r.key) ≡ b → (c : Bool) → is_coin r x ≡ c → HasCallTexts T rs (cond b (Node (Key x) Empty B) (cond c B (Node (New x S) A B))) → IsFineContext T [] (cond b (Node (Key x) Empty B) (cond c B (Node (New x S) A B)))
        go true e c f t = (tt, eqb-true x r.key e ∙ sym key, fine t.2)
        go false e true f t = fine t
        go false e false f t = (tt, role (ap₂ (λ b c. not b && c) e (ap₂ (λ b c. not b && not c) f na)), fine t.2)

    its_label : (l : ℕ) (a b : Tree) → has_label l (Node (Find l) a b) ≡ true
    unfolding has_label
    its_label l a b = or_left (l == l) (has_label l a || has_label l b) (eq-eqb l l refl)

    nothing_fine : (b : Tree) → is_phrase Nil b ≡ true → IsFineContext T [] b
    unfolding is_phrase IsFineContext
    nothing_fine Empty e = tt
    nothing_fine (Node h a b) e = absurd (both_ways _ refl e)

    mutual
      unfolding is_phrase IsApt IsFineContext HasCallTexts

      pub inputs_fine : (b : Tree) (rs : List (ℕ × ℕ)) (j : ℕ) → is_phrase Inputs b ≡ true → IsApt r Inputs rs j b → HasRolesOf T r b → has_free_indices (matching r) b ≡ true → HasCallTexts T rs (here rs j b) → AreFineInputs T (here rs j b)
      inputs_fine Empty rs j e s k f t = absurd (both_ways _ refl e)
      inputs_fine (Node Stop a b) rs j e s k f t = subst (AreFineInputs T) (sym (node_in r terms position.Anywhere rs j Stop a b refl)) tt
      inputs_fine (Node Par a b) rs j e s k f t =
          let w = and_parts (is_phrase Inputs a) _ e in
          let q = node_in r terms position.Anywhere rs j Par a b refl in
          let kk = children_roles T r Par a b k in
          let ff = children_free r Par a b f in
          let u = subst (HasCallTexts T rs) q t in
          subst (AreFineInputs T) (sym q) (inputs_fine a rs j w.0 s.1.0 kk.0 ff.0 u.1, inputs_fine b rs (j + length (inside r position.Anywhere rs Par a)) w.1 s.1.1 kk.1 ff.1 u.2)
      inputs_fine (Node (Repl i n) a b) rs j e s k f t =
          let w = and_parts (is_phrase Nil a) _ e in
          let q = node_in r terms position.Anywhere rs j (Repl i n) a b refl in
          subst (AreFineInputs T) (sym q) (inputs_fine b (rs ++ (i, n) ∷ []) (j + length (inside r position.Anywhere rs (Repl i n) a)) w.1 s.1.1 (children_roles T r (Repl i n) a b k).1 (children_free r (Repl i n) a b f).1 (subst (HasCallTexts T rs) q t).2)
      inputs_fine (Node (In c) a b) rs j e s k f t =
          let w = and_parts (is_phrase Pattern a) _ e in
          let N : ℕ = j + length (inside r position.Anywhere rs (In c) a) in
          let q = node_in r terms position.Anywhere rs j (In c) a b refl ∙ ap (λ z. Node (In c) z (here rs N b)) (pattern_in r terms rs j a w.0) in
          subst (AreFineInputs T) (sym q) (
            tt,
            (λ y i. let z = binders_plain r (second a) (pattern_binders a w.0) s.0 y i in defined_plain T r (In c) a b k y z.0 z.1),
            body_fine b rs N w.1 s.1.1 (children_roles T r (In c) a b k).1 (children_free r (In c) a b f).1 (subst (HasCallTexts T rs) q t).2,
          )
      inputs_fine (Node h a b) rs j e s k f t = absurd (both_ways _ refl e)

      body_fine : (b : Tree) (rs : List (ℕ × ℕ)) (j : ℕ) → is_phrase Body b ≡ true → IsApt r Body rs j b → HasRolesOf T r b → has_free_indices (matching r) b ≡ true → HasCallTexts T rs (here rs j b) → IsFineContext T [] (here rs j b)
      body_fine Empty rs j e s k f t = absurd (both_ways _ refl e)
      body_fine (Node Yield a b) rs j e s k f t = subst (IsFineContext T []) (sym (node_in r terms position.Anywhere rs j Yield a b refl)) tt
      body_fine (Node (New x S) a b) rs j e s k f t =
          let w = and_parts (is_phrase Nil a) _ e in
          let q = node_in r terms position.Anywhere rs j (New x S) a b refl in
          let N : ℕ = j + length (inside r position.Anywhere rs (New x S) a) in
          subst (IsFineContext T []) (sym q)
          (drawn_fine x S rs (here rs j a) (here rs N b) s.0 (defined_plain T r (New x S) a b k x (eq-eqb x x refl)) (subst (HasCallTexts T rs) q t)
          (body_fine b rs N w.1 s.1.1 (children_roles T r (New x S) a b k).1 (children_free r (New x S) a b f).1))
      body_fine (Node (Let x S) a b) rs j e s k f t =
          let w = and_parts (is_phrase Term a) _ e in
          let q = node_in r terms position.Anywhere rs j (Let x S) a b refl in
          let kk = children_roles T r (Let x S) a b k in
          let ff = children_free r (Let x S) a b f in
          let N : ℕ = j + length (inside r position.Anywhere rs (Let x S) a) in
          subst (IsFineContext T []) (sym q)
          (behind_calls rs (sites_in (matching r) position.Anywhere rs 0 a) j j [] (Node (Let x S) (here rs j a) (here rs N b)) (none_from rs j) (subst (HasCallTexts T rs) q t)
          (λ all has u. (defined_plain T r (Let x S) a b k x (eq-eqb x x refl) s.0.0, term_fine T r all rs terms a j kk.0.ordinary w.0 s.0.1.outside ff.0 has, body_fine b rs N w.1 s.1.1 kk.1 ff.1 u.2)))
      body_fine (Node (Event v) a b) rs j e s k f t =
          let w = and_parts (is_phrase Terms a) _ e in
          let q = node_in r terms position.Anywhere rs j (Event v) a b refl in
          let kk = children_roles T r (Event v) a b k in
          let ff = children_free r (Event v) a b f in
          let N : ℕ = j + length (inside r position.Anywhere rs (Event v) a) in
          subst (IsFineContext T []) (sym q)
          (behind_calls rs (sites_in (matching r) position.Anywhere rs 0 a) j j [] (Node (Event v) (here rs j a) (here rs N b)) (none_from rs j) (subst (HasCallTexts T rs) q t)
          (λ all has u. (terms_fine T r all rs terms a j kk.0.ordinary w.0 s.0.outside ff.0 has, body_fine b rs N w.1 s.1.1 kk.1 ff.1 u.2)))
      body_fine (Node If a b) rs j e s k f t =
          let w = and_parts (is_phrase Term a) _ e in
          let q = node_in r terms position.Anywhere rs j If a b refl in
          let kk = children_roles T r If a b k in
          let ff = children_free r If a b f in
          let N : ℕ = j + length (inside r position.Anywhere rs If a) in
          subst (IsFineContext T []) (sym q)
          (behind_calls rs (sites_in (matching r) position.Anywhere rs 0 a) j j [] (Node If (here rs j a) (context r position.Bodies rs N b)) (none_from rs j) (subst (HasCallTexts T rs) q t)
          (λ all has u. (term_fine T r all rs terms a j kk.0.ordinary w.0 s.0.outside ff.0 has, thens_fine b rs N w.1 s.1.1 kk.1 ff.1 u.2)))
      body_fine (Node (Find l) a b) rs j e s k f t =
          let w = and_parts (is_phrase Branches a) _ e in
          let q = node_in r terms position.Anywhere rs j (Find l) a b refl in
          let kk = children_roles T r (Find l) a b k in
          let ff = children_free r (Find l) a b f in
          let N : ℕ = j + length (inside r position.Anywhere rs (Find l) a) in
          let u = subst (HasCallTexts T rs) q t in
          subst (IsFineContext T []) (sym q) (tt, k.finds l (its_label l a b), branches_fine a rs j w.0 s.1.0 kk.0 ff.0 u.1, body_fine b rs N w.1 s.1.1 kk.1 ff.1 u.2)
      body_fine (Node (Out c) (Node Cons v ms) b) rs j e s k f t =
          let a : Tree = Node Cons v ms in
          let w = and_parts (is_phrase Message a) _ e in
          let m = and_parts (is_phrase Names v) _ w.0 in
          let N : ℕ = j + length (inside r position.Anywhere rs (Out c) a) in
          let M : ℕ = j + length (inside r position.Anywhere rs Cons v) in
          let kk = children_roles T r (Out c) a b k in
          let ff = children_free r (Out c) a b f in
          let i = node_in r terms position.Anywhere rs j Cons v ms refl in
          let q = node_in r terms position.Anywhere rs j (Out c) a b refl ∙ ap (λ z. after_calls r.answer j (sites_in (matching r) position.Anywhere rs 0 a) (Node (Out c) z (here rs N b))) i in
          subst (IsFineContext T []) (sym q)
          (behind_calls rs (sites_in (matching r) position.Anywhere rs 0 a) j j [] (Node (Out c) (Node Cons (here rs j v) (here rs M ms)) (here rs N b)) (none_from rs j) (subst (HasCallTexts T rs) q t)
          (λ all has u. (message_fine T r all rs terms v ms j kk.0.ordinary m.1 s.0.outside ff.0 has, inputs_fine b rs N w.1 s.1.1 kk.1 ff.1 u.2)))
      body_fine (Node (Out c) a b) rs j e s k f t = absurd (both_ways _ refl (no_message a (and_parts (is_phrase Message a) (is_phrase Inputs b) e).0))
      body_fine (Node h a b) rs j e s k f t = absurd (both_ways _ refl e)

      thens_fine : (b : Tree) (rs : List (ℕ × ℕ)) (j : ℕ) → is_phrase Then b ≡ true → IsApt r Then rs j b → HasRolesOf T r b → has_free_indices (matching r) b ≡ true → HasCallTexts T rs (context r position.Bodies rs j b) → IsFineContext T [] (context r position.Bodies rs j b)
      thens_fine Empty rs j e s k f t = absurd (both_ways _ refl e)
      thens_fine (Node Cons a b) rs j e s k f t =
          let w = and_parts (is_phrase Body a) _ e in
          let q = node_in r terms position.Bodies rs j Cons a b refl in
          let kk = children_roles T r Cons a b k in
          let ff = children_free r Cons a b f in
          let u = subst (HasCallTexts T rs) q t in
          subst (IsFineContext T []) (sym q) (tt, body_fine a rs j w.0 s.1.0 kk.0 ff.0 u.1, else_fine b rs (j + length (inside r position.Bodies rs Cons a)) w.1 s.1.1 kk.1 ff.1 u.2)
      thens_fine (Node h a b) rs j e s k f t = absurd (both_ways _ refl e)

      else_fine : (b : Tree) (rs : List (ℕ × ℕ)) (j : ℕ) → is_phrase Else b ≡ true → IsApt r Else rs j b → HasRolesOf T r b → has_free_indices (matching r) b ≡ true → HasCallTexts T rs (context r position.ElseBody rs j b) → IsFineContext T [] (context r position.ElseBody rs j b)
      else_fine Empty rs j e s k f t = absurd (both_ways _ refl e)
      else_fine (Node Cons a b) rs j e s k f t =
          let w = and_parts (is_phrase Body a) _ e in
          let q = node_in r terms position.ElseBody rs j Cons a b refl in
          let N : ℕ = j + length (inside r position.ElseBody rs Cons a) in
          subst (IsFineContext T []) (sym q)
          (tt, body_fine a rs j w.0 s.1.0 (children_roles T r Cons a b k).0 (children_free r Cons a b f).0 (subst (HasCallTexts T rs) q t).1, subst (IsFineContext T []) (sym (nil_in r rs N b w.1)) (nothing_fine b w.1))
      else_fine (Node h a b) rs j e s k f t = absurd (both_ways _ refl e)

      branches_fine : (a : Tree) (rs : List (ℕ × ℕ)) (j : ℕ) → is_phrase Branches a ≡ true → IsApt r Branches rs j a → HasRolesOf T r a → has_free_indices (matching r) a ≡ true → HasCallTexts T rs (context r position.Branches rs j a) → AreFineBranchesIn T (context r position.Branches rs j a)
      branches_fine Empty rs j e s k f t = subst (AreFineBranchesIn T) (sym (empty_in r position.Branches rs j)) tt
      branches_fine (Node Cons (Node Branch us (Node Cons cells (Node Cons c b))) more) rs j e s k f t =
          let here_arm : Tree = arm r terms us cells c b in
          let v = and_parts (is_phrase Arm here_arm) _ e in
          let w = and_parts (is_phrase Binders us) _ v.0 in
          let x = and_parts (is_phrase Cells cells) _ w.1 in
          let y = and_parts (is_phrase Term c) _ x.1 in
          let q = branch_in r terms rs j us cells c b more w.0 in
          let u = subst (HasCallTexts T rs) q t in
          let kk = children_roles T r Cons here_arm more k in
          let ka = children_roles T r Branch us (Node Cons cells (Node Cons c b)) kk.0 in
          let kc = children_roles T r Cons cells (Node Cons c b) ka.1 in
          let kb = children_roles T r Cons c b kc.1 in
          let ff = children_free r Cons here_arm more f in
          let fb = children_free r Cons c b (children_free r Cons cells (Node Cons c b) (children_free r Branch us (Node Cons cells (Node Cons c b)) ff.0).1).1 in
          subst (AreFineBranchesIn T) (sym q) (
            (λ z i. let p = binders_plain r us w.0 s.1.0.0 z i in defined_plain T r Branch us (Node Cons cells (Node Cons c b)) kk.0 z p.0 p.1),
            cells_fine T r key cells kc.0.ordinary x.0 s.1.0.1.1.0,
            plain_fine T r [] c kb.0.ordinary y.0 s.1.0.1.1.1.1.0,
            body_fine b rs (body_number r terms rs j us) y.1 s.1.0.1.1.1.1.1.1 kb.1 fb.1 u.1.2.2.2,
            branches_fine more rs (j + length (inside r position.Branches rs Cons here_arm)) v.1 s.1.1 kk.1 ff.1 u.2,
          )
      branches_fine (Node Cons (Node Branch us (Node Cons cells rest)) more) rs j e s k f t = absurd (both_ways _ refl (guarded_of us cells rest more e))
      branches_fine (Node Cons (Node Branch us rest) more) rs j e s k f t = absurd (both_ways _ refl (guards_of us rest more e))
      branches_fine (Node Cons a more) rs j e s k f t = absurd (both_ways _ refl (arm_of a more e))
      branches_fine (Node h a more) rs j e s k f t = absurd (both_ways _ refl e)

pub context_fine : (T : Text) (r : Reduction) → IsAptGame r → T.calls.key ≡ r.key → HasRolesOf T r r.scene.game → has_free_indices (matching r) r.scene.game ≡ true → HasCallTexts T [] (context_of_game r).game → AreFineInputs T (context_of_game r).game
context_fine T r apt key roles free texts = inputs_fine T r apt.terms key r.scene.game [] 0 apt.formed.phrase apt.apt roles free texts
