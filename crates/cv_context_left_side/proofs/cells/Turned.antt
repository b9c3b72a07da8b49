-- A game's tree beside that of its context, construct by construct.
use Rattle.std.proofs.Common.{◌≡◌, ℕ, suc, ◌+◌, Bool, true, false, cond, ◌&&◌, not, ◌==◌, List, [], ◌∷◌, length, refl, sym, ap, ap₂, subst, ◌∙◌, eqb-true}
use Rattle.std.proofs.lemmas.Bool.{both_ways, and_parts}
use Rattle.cv_syntax_trees.specs.declared.head.Head.{Head}
use Rattle.cv_syntax_trees.specs.declared.head.Head.TheVariants.{Branch, Call, Cons, Event, Find, If, In, Key, Let, New, Out, Par, Repl, Stop, Yield}
use Rattle.cv_syntax_trees.specs.Tree.{Tree, Empty, Node}
use Rattle.cv_scope_rules.specs.Phrases.{Phrase, Arm, Binders, Body, Branches, Cells, Else, Inputs, Message, Nil, Pattern, Term, Terms, Then, is_phrase}
use Rattle.cv_scope_rules.specs.declared.position.Position.{Position}
use Rattle.cv_scope_rules.specs.declared.position.Position.TheVariants as position
use Rattle.cv_steps.proofs.Flat.{is_of_terms}
use Rattle.cv_scene.specs.Sites.{Site}
use Rattle.cv_scene.specs.Contexts.{after_calls, in_context as tree_in_context}
use Rattle.cv_scene.specs.Reductions.{Reduction, is_coin, matching}
use Rattle.cv_scene.specs.Apt.{AreSitesApt, AreTermsApt, IsApt, IsAptGame, inside, sites_inside}
use Rattle.cv_match_laws.proofs.values.Numbers.{context}
use Rattle.cv_context_runs.proofs.service.Finds.{arm, arm_of, body_number, branch_in, empty_in, guarded_of, guards_of, nil_in, node_in, pattern_in}
use Rattle.cv_context_left_side.proofs.cells.Flat.{binders_flat, has_terms_alone, is_flat, pattern_flat, phrase_flat, phrase_terms, terms_in}
use Rattle.cv_context_left_side.proofs.cells.Found.{AreFound, IsCalled, site_called, sites_found}

-- a construct that the context has too, with another first child
abbrev pub is_kept : Reduction → Head → Bool
is_kept r (New y T) = not (y == r.key) && not (is_coin r y)
is_kept r (In c) = false
is_kept r (Key y) = false
is_kept r (Call y l) = false
is_kept r h = true

pub data IsTurned (r : Reduction) : Tree → Tree → Type 0 where
  flat : {t : Tree} → is_flat t ≡ true → IsTurned r t t
  terms : {t c : Tree} → has_terms_alone t ≡ true → has_terms_alone c ≡ true → IsTurned r t c
  kept : {h : Head} {a b c d : Tree} → is_kept r h ≡ true → IsTurned r a c → IsTurned r b d → IsTurned r (Node h a b) (Node h c d)
  input : {x : ℕ} {a b d : Tree} → is_flat a ≡ true → IsTurned r b d → IsTurned r (Node (In x) a b) (Node (In x) a d)
  chosen : {T : ℕ} {a b d : Tree} → is_flat a ≡ true → IsTurned r b d → IsTurned r (Node (New r.key T) a b) (Node (Key r.key) Empty d)
  gone : {y T : ℕ} {a b d : Tree} → is_coin r y ≡ true → is_flat a ≡ true → IsTurned r b d → IsTurned r (Node (New y T) a b) d
  called : {x k : ℕ} {q t c : Tree} → IsCalled r x k q → IsTurned r t c → IsTurned r t (Node (Call x k) q c)

calls_turned : (r : Reduction) (rs : List (ℕ × ℕ)) (j : ℕ) (ss : List Site) → AreSitesApt r rs j ss → AreFound (matching r) ss → (t c : Tree) → IsTurned r t c → IsTurned r t (after_calls r.answer j ss c)
calls_turned r rs j [] a f t c k = k
calls_turned r rs j (s ∷ ss) a f t c k = called (site_called r rs j s a.0 f.0) (calls_turned r rs (suc j) ss a.1 f.1 t c k)

module _ (r : Reduction) (fine : IsAptGame r) where
  abbrev At : Position → List (ℕ × ℕ) → ℕ → Tree → Tree
  At w rs j t = context r w rs j t

  nil_turned : (rs : List (ℕ × ℕ)) (j : ℕ) (a : Tree) → is_phrase Nil a ≡ true → IsTurned r a (At position.Anywhere rs j a)
  nil_turned rs j a e = subst (IsTurned r a) (sym (nil_in r fine rs j a e)) (flat (phrase_flat Nil a refl e))

  terms_turned : (σ : Phrase) (rs : List (ℕ × ℕ)) (j : ℕ) (a : Tree) → is_of_terms σ ≡ true → is_phrase σ a ≡ true → IsTurned r a (At position.Anywhere rs j a)
  terms_turned σ rs j a f e = let k = phrase_terms σ a f e in terms k (terms_in r position.Anywhere rs j a k)

  -- a statement with its calls
  statement : (σ : Phrase) (h : Head) (rs : List (ℕ × ℕ)) (j : ℕ) (a b B : Tree) → is_of_terms σ ≡ true → is_kept r h ≡ true → is_phrase σ a ≡ true → AreTermsApt r rs j a → IsTurned r b B
      → IsTurned r (Node h a b) (after_calls r.answer j (sites_inside r rs a) (Node h (At position.Anywhere rs j a) B))
  statement σ h rs j a b B f k e s z =
      calls_turned r rs j (sites_inside r rs a) s.sites (sites_found (matching r) position.Anywhere rs 0 a (phrase_terms σ a f e)) (Node h a b) _ (kept k (terms_turned σ rs j a f e) z)

  drawn : (v T : ℕ) (a b A B : Tree) → is_flat a ≡ true → IsTurned r a A → IsTurned r b B → IsTurned r (Node (New v T) a b) (tree_in_context (matching r) (is_coin r) (New v T) A B)
  drawn v T a b A B e y z = by (v == r.key) refl (is_coin r v) refl
    where
      by : (p : Bool) → (v == r.key) ≡ p → (q : Bool) → is_coin r v ≡ q → IsTurned r (Node (New v T) a b) (cond p (Node (Key v) Empty B) (cond q B (Node (New v T) A B)))
      by true f q g = subst (λ x. IsTurned r (Node (New x T) a b) (Node (Key x) Empty B)) (sym (eqb-true v r.key f)) (chosen e z)
      by false f true g = gone g e z
      by false f false g = kept (ap₂ (λ (x y : Bool). not x && not y) f g) y z

  mutual
    unfolding is_phrase IsApt

    pub inputs_turned : (t : Tree) (rs : List (ℕ × ℕ)) (j : ℕ) → is_phrase Inputs t ≡ true → IsApt r Inputs rs j t → IsTurned r t (At position.Anywhere rs j t)
    inputs_turned (Node Stop a b) rs j e s =
        let p = and_parts (is_phrase Nil a) _ e in
        subst (IsTurned r (Node Stop a b)) (sym (node_in r fine position.Anywhere rs j Stop a b refl)) (kept refl (nil_turned rs j a p.0) (nil_turned rs _ b p.1))
    inputs_turned (Node Par a b) rs j e s =
        let p = and_parts (is_phrase Inputs a) _ e in
        subst (IsTurned r (Node Par a b)) (sym (node_in r fine position.Anywhere rs j Par a b refl)) (kept refl (inputs_turned a rs j p.0 s.1.0) (inputs_turned b rs _ p.1 s.1.1))
    inputs_turned (Node (Repl x n) a b) rs j e s =
        let p = and_parts (is_phrase Nil a) _ e in
        subst (IsTurned r (Node (Repl x n) a b)) (sym (node_in r fine position.Anywhere rs j (Repl x n) a b refl)) (kept refl (nil_turned rs j a p.0) (inputs_turned b _ _ p.1 s.1.1))
    inputs_turned (Node (In c) a b) rs j e s =
        let p = and_parts (is_phrase Pattern a) _ e in
        subst (IsTurned r (Node (In c) a b))
        (sym (node_in r fine position.Anywhere rs j (In c) a b refl ∙ ap (λ z. Node (In c) z (At position.Anywhere rs (j + length (inside r position.Anywhere rs (In c) a)) b)) (pattern_in r fine rs j a p.0)))
        (input (pattern_flat a p.0) (body_turned b rs _ p.1 s.1.1))
    inputs_turned t rs j e s = absurd (both_ways false refl e)

    body_turned : (t : Tree) (rs : List (ℕ × ℕ)) (j : ℕ) → is_phrase Body t ≡ true → IsApt r Body rs j t → IsTurned r t (At position.Anywhere rs j t)
    body_turned (Node Yield a b) rs j e s =
        let p = and_parts (is_phrase Nil a) _ e in
        subst (IsTurned r (Node Yield a b)) (sym (node_in r fine position.Anywhere rs j Yield a b refl)) (kept refl (nil_turned rs j a p.0) (nil_turned rs _ b p.1))
    body_turned (Node (New v T) a b) rs j e s =
        let p = and_parts (is_phrase Nil a) _ e in
        subst (IsTurned r (Node (New v T) a b)) (sym (node_in r fine position.Anywhere rs j (New v T) a b refl))
        (drawn v T a b _ _ (phrase_flat Nil a refl p.0) (nil_turned rs j a p.0) (body_turned b rs _ p.1 s.1.1))
    body_turned (Node (Let v T) a b) rs j e s =
        let p = and_parts (is_phrase Term a) _ e in
        subst (IsTurned r (Node (Let v T) a b)) (sym (node_in r fine position.Anywhere rs j (Let v T) a b refl)) (statement Term (Let v T) rs j a b _ refl refl p.0 s.0.1 (body_turned b rs _ p.1 s.1.1))
    body_turned (Node (Event v) a b) rs j e s =
        let p = and_parts (is_phrase Terms a) _ e in
        subst (IsTurned r (Node (Event v) a b)) (sym (node_in r fine position.Anywhere rs j (Event v) a b refl)) (statement Terms (Event v) rs j a b _ refl refl p.0 s.0 (body_turned b rs _ p.1 s.1.1))
    body_turned (Node If a b) rs j e s =
        let p = and_parts (is_phrase Term a) _ e in
        subst (IsTurned r (Node If a b)) (sym (node_in r fine position.Anywhere rs j If a b refl)) (statement Term If rs j a b _ refl refl p.0 s.0 (then_turned b rs _ p.1 s.1.1))
    body_turned (Node (Out c) a b) rs j e s =
        let p = and_parts (is_phrase Message a) _ e in
        subst (IsTurned r (Node (Out c) a b)) (sym (node_in r fine position.Anywhere rs j (Out c) a b refl)) (statement Message (Out c) rs j a b _ refl refl p.0 s.0 (inputs_turned b rs _ p.1 s.1.1))
    body_turned (Node (Find l) a b) rs j e s =
        let p = and_parts (is_phrase Branches a) _ e in
        subst (IsTurned r (Node (Find l) a b)) (sym (node_in r fine position.Anywhere rs j (Find l) a b refl)) (kept refl (branches_turned a rs j p.0 s.1.0) (body_turned b rs _ p.1 s.1.1))
    body_turned t rs j e s = absurd (both_ways false refl e)

    then_turned : (t : Tree) (rs : List (ℕ × ℕ)) (j : ℕ) → is_phrase Then t ≡ true → IsApt r Then rs j t → IsTurned r t (At position.Bodies rs j t)
    then_turned (Node Cons a b) rs j e s =
        let p = and_parts (is_phrase Body a) _ e in
        subst (IsTurned r (Node Cons a b)) (sym (node_in r fine position.Bodies rs j Cons a b refl)) (kept refl (body_turned a rs j p.0 s.1.0) (else_turned b rs _ p.1 s.1.1))
    then_turned t rs j e s = absurd (both_ways false refl e)

    else_turned : (t : Tree) (rs : List (ℕ × ℕ)) (j : ℕ) → is_phrase Else t ≡ true → IsApt r Else rs j t → IsTurned r t (At position.ElseBody rs j t)
    else_turned (Node Cons a b) rs j e s =
        let p = and_parts (is_phrase Body a) _ e in
        subst (IsTurned r (Node Cons a b)) (sym (node_in r fine position.ElseBody rs j Cons a b refl)) (kept refl (body_turned a rs j p.0 s.1.0) (nil_turned rs _ b p.1))
    else_turned t rs j e s = absurd (both_ways false refl e)

    branches_turned : (t : Tree) (rs : List (ℕ × ℕ)) (j : ℕ) → is_phrase Branches t ≡ true → IsApt r Branches rs j t → IsTurned r t (At position.Branches rs j t)
    branches_turned Empty rs j e s = subst (IsTurned r Empty) (sym (empty_in r fine position.Branches rs j)) (flat refl)
    branches_turned (Node Cons (Node Branch us (Node Cons cells (Node Cons c b))) more) rs j e s =
        let v = and_parts (is_phrase Arm (arm r fine us cells c b)) _ e in
        let w = and_parts (is_phrase Binders us) _ v.0 in
        let x = and_parts (is_phrase Cells cells) _ w.1 in
        let y = and_parts (is_phrase Term c) _ x.1 in
        subst (IsTurned r (Node Cons (arm r fine us cells c b) more)) (sym (branch_in r fine rs j us cells c b more w.0))
        (kept refl
        (kept refl (flat (binders_flat us w.0)) (kept refl (flat (phrase_flat Cells cells refl x.0)) (kept refl (flat (phrase_flat Term c refl y.0)) (body_turned b rs (body_number r fine rs j us) y.1 s.1.0.1.1.1.1.1.1))))
        (branches_turned more rs _ v.1 s.1.1))
    branches_turned (Node Cons (Node Branch us (Node Cons cells rest)) more) rs j e s = absurd (both_ways false refl (guarded_of us cells rest more e))
    branches_turned (Node Cons (Node Branch us rest) more) rs j e s = absurd (both_ways false refl (guards_of us rest more e))
    branches_turned (Node Cons a more) rs j e s = absurd (both_ways false refl (arm_of a more e))
    branches_turned (Node h a b) rs j e s = absurd (both_ways false refl e)
