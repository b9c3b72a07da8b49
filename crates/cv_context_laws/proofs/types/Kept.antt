-- The definitions of a context are those of its game, with the choice of the key and the answers of calls.
use Rattle.std.proofs.Common.{◌≡◌, ℕ, suc, Bool, true, false, cond, ◌&&◌, not, ◌==◌, List, [], ◌∷◌, refl, sym, ap₂, subst, eqb-true}
use Rattle.std.proofs.lemmas.Bool.{and_parts, both_ways}
use Rattle.cv_syntax_trees.specs.declared.head.Head.TheVariants.{Branch, Cons, Event, Find, If, In, Key, Let, New, Out, Par, Repl, Stop, Yield}
use Rattle.cv_syntax_trees.specs.Declarations.{Declaration}
use Rattle.cv_syntax_trees.specs.Tree.{Tree, Empty, Node, second}
use Rattle.cv_scope_rules.specs.Phrases.{Arm, Binders, Body, Branches, Cells, Else, Inputs, Message, Nil, Pattern, Term, Terms, Then, is_phrase}
use Rattle.cv_scope_rules.specs.declared.position.Position.{Position}
use Rattle.cv_scope_rules.specs.declared.position.Position.TheVariants as position
use Rattle.cv_scene.specs.Sites.{Site}
use Rattle.cv_scene.specs.Contexts.{after_calls, in_context as tree_in_context}
use Rattle.cv_scene.specs.Reductions.{Reduction, is_answer, is_coin, matching}
use Rattle.cv_scene.specs.Apt.{AreSitesApt, IsApt, IsAptGame, inside}
use Rattle.cv_meaning.specs.contexts.Roles.{Gone}
use Rattle.cv_inline_laws.specs.runs.Texts.{Text}
use Rattle.cv_match_laws.proofs.values.Numbers.{context}
use Rattle.cv_context_runs.proofs.service.Finds.{arm, arm_of, body_number, branch_in, empty_in, guarded_of, guards_of, node_in, pattern_in}
use Rattle.cv_context_laws.specs.types.Typed.{HasGameRoles, variable_type}
use Rattle.cv_context_laws.proofs.types.Definitions.{HasDefinitions, HasGuarded, HasTested, HasTypes}
use Rattle.cv_context_laws.proofs.types.Checked.{IsChecked, branch_typed, first_checked, input_typed, let_typed, new_defined, new_typed, second_checked}

module _ (T : Text) (r : Reduction) (fine : IsAptGame r) (roles : HasGameRoles T r) where
  abbrev At : Position → List (ℕ × ℕ) → ℕ → Tree → Tree
  At w rs j t = context r w rs j t

  abbrev Defined : Tree → Type 0
  Defined t = HasDefinitions T (variable_type r.scene.game) t

  abbrev Checked : Tree → Type 0
  Checked t = IsChecked r.scene.declarations r.scene.game t

  abbrev ds : List Declaration
  ds = r.scene.declarations

  abbrev game : Tree
  game = r.scene.game

  calls_defined : (rs : List (ℕ × ℕ)) (j : ℕ) (ss : List Site) (t : Tree) → AreSitesApt r rs j ss → Defined t → Defined (after_calls r.answer j ss t)
  unfolding HasDefinitions
  calls_defined rs j [] t s d = d
  calls_defined rs j (c ∷ ss) t s d = (roles.answers j s.0.listed, calls_defined rs (suc j) ss t s.1 d)

  drawn : (v U : ℕ) (a b A B : Tree) → Checked (Node (New v U) a b) → is_answer r v ≡ false → Defined B → Defined (tree_in_context (matching r) (is_coin r) (New v U) A B)
  unfolding HasDefinitions
  drawn v U a b A B c n d = go (v == r.key) refl (is_coin r v) refl
    where
      go : (p : Bool) → (v == r.key) ≡ p → (q : Bool) → is_coin r v ≡ q → Defined (cond p (Node (Key v) Empty B) (cond q B (Node (New v U) A B)))
      go true f q g = (subst (λ x. T.role x ≡ Gone) (sym (eqb-true v r.key f)) roles.key, d)
      go false f true g = d
      go false f false g = (
        roles.variables v (new_defined ds game v U a b c) (ap₂ (λ (x y : Bool). not x && y) f (ap₂ (λ (x y : Bool). not x && not y) g n)),
        new_typed ds game v U a b c,
        d,
      )

  mutual
    unfolding is_phrase IsApt HasDefinitions HasGuarded HasTested

    pub inputs_defined : (t : Tree) (rs : List (ℕ × ℕ)) (j : ℕ) → is_phrase Inputs t ≡ true → IsApt r Inputs rs j t → Checked t → Defined (At position.Anywhere rs j t)
    inputs_defined (Node Stop a b) rs j e s c =
        let p = and_parts (is_phrase Nil a) (is_phrase Nil b) e in
        subst Defined (sym (node_in r fine position.Anywhere rs j Stop a b refl)) (nil_defined rs _ b p.1)
    inputs_defined (Node Par a b) rs j e s c =
        let p = and_parts (is_phrase Inputs a) (is_phrase Inputs b) e in
        subst Defined (sym (node_in r fine position.Anywhere rs j Par a b refl)) (inputs_defined a rs j p.0 s.1.0 (first_checked ds game Par a b c), inputs_defined b rs _ p.1 s.1.1 (second_checked ds game Par a b c))
    inputs_defined (Node (Repl x n) a b) rs j e s c =
        let p = and_parts (is_phrase Nil a) (is_phrase Inputs b) e in
        subst Defined (sym (node_in r fine position.Anywhere rs j (Repl x n) a b refl)) (inputs_defined b _ _ p.1 s.1.1 (second_checked ds game (Repl x n) a b c))
    inputs_defined (Node (In x) a b) rs j e s c =
        let p = and_parts (is_phrase Pattern a) (is_phrase Body b) e in
        subst Defined (sym (node_in r fine position.Anywhere rs j (In x) a b refl))
        (subst (λ z. HasTypes (variable_type game) (second z)) (sym (pattern_in r fine rs j a p.0)) (input_typed ds game x a b c), body_defined b rs _ p.1 s.1.1 (second_checked ds game (In x) a b c))
    inputs_defined t rs j e s c = absurd (both_ways false refl e)

    nil_defined : (rs : List (ℕ × ℕ)) (j : ℕ) (a : Tree) → is_phrase Nil a ≡ true → Defined (At position.Anywhere rs j a)
    nil_defined rs j Empty e = subst Defined (sym (empty_in r fine position.Anywhere rs j)) tt
    nil_defined rs j (Node h a b) e = absurd (both_ways false refl e)

    body_defined : (t : Tree) (rs : List (ℕ × ℕ)) (j : ℕ) → is_phrase Body t ≡ true → IsApt r Body rs j t → Checked t → Defined (At position.Anywhere rs j t)
    body_defined (Node Yield a b) rs j e s c =
        let p = and_parts (is_phrase Nil a) (is_phrase Nil b) e in
        subst Defined (sym (node_in r fine position.Anywhere rs j Yield a b refl)) (nil_defined rs _ b p.1)
    body_defined (Node (New v U) a b) rs j e s c =
        let p = and_parts (is_phrase Nil a) (is_phrase Body b) e in
        subst Defined (sym (node_in r fine position.Anywhere rs j (New v U) a b refl)) (drawn v U a b _ _ c s.0 (body_defined b rs _ p.1 s.1.1 (second_checked ds game (New v U) a b c)))
    body_defined (Node (Let v U) a b) rs j e s c =
        let p = and_parts (is_phrase Term a) (is_phrase Body b) e in
        subst Defined (sym (node_in r fine position.Anywhere rs j (Let v U) a b refl))
        (calls_defined rs j (inside r position.Anywhere rs (Let v U) a) _ s.0.1.sites (let_typed ds game v U a b c, body_defined b rs _ p.1 s.1.1 (second_checked ds game (Let v U) a b c)))
    body_defined (Node (Event v) a b) rs j e s c =
        let p = and_parts (is_phrase Terms a) (is_phrase Body b) e in
        subst Defined (sym (node_in r fine position.Anywhere rs j (Event v) a b refl))
        (calls_defined rs j (inside r position.Anywhere rs (Event v) a) _ s.0.sites (body_defined b rs _ p.1 s.1.1 (second_checked ds game (Event v) a b c)))
    body_defined (Node If a b) rs j e s c =
        let p = and_parts (is_phrase Term a) (is_phrase Then b) e in
        subst Defined (sym (node_in r fine position.Anywhere rs j If a b refl))
        (calls_defined rs j (inside r position.Anywhere rs If a) _ s.0.sites (then_defined b rs _ p.1 s.1.1 (second_checked ds game If a b c)))
    body_defined (Node (Out x) a b) rs j e s c =
        let p = and_parts (is_phrase Message a) (is_phrase Inputs b) e in
        subst Defined (sym (node_in r fine position.Anywhere rs j (Out x) a b refl))
        (calls_defined rs j (inside r position.Anywhere rs (Out x) a) _ s.0.sites (inputs_defined b rs _ p.1 s.1.1 (second_checked ds game (Out x) a b c)))
    body_defined (Node (Find l) a b) rs j e s c =
        let p = and_parts (is_phrase Branches a) (is_phrase Body b) e in
        subst Defined (sym (node_in r fine position.Anywhere rs j (Find l) a b refl))
        (branches_defined a rs j p.0 s.1.0 (first_checked ds game (Find l) a b c), body_defined b rs _ p.1 s.1.1 (second_checked ds game (Find l) a b c))
    body_defined t rs j e s c = absurd (both_ways false refl e)

    then_defined : (t : Tree) (rs : List (ℕ × ℕ)) (j : ℕ) → is_phrase Then t ≡ true → IsApt r Then rs j t → Checked t → Defined (At position.Bodies rs j t)
    then_defined (Node Cons a b) rs j e s c =
        let p = and_parts (is_phrase Body a) (is_phrase Else b) e in
        subst Defined (sym (node_in r fine position.Bodies rs j Cons a b refl)) (body_defined a rs j p.0 s.1.0 (first_checked ds game Cons a b c), else_defined b rs _ p.1 s.1.1 (second_checked ds game Cons a b c))
    then_defined t rs j e s c = absurd (both_ways false refl e)

    else_defined : (t : Tree) (rs : List (ℕ × ℕ)) (j : ℕ) → is_phrase Else t ≡ true → IsApt r Else rs j t → Checked t → Defined (At position.ElseBody rs j t)
    else_defined (Node Cons a b) rs j e s c =
        let p = and_parts (is_phrase Body a) (is_phrase Nil b) e in
        subst Defined (sym (node_in r fine position.ElseBody rs j Cons a b refl)) (body_defined a rs j p.0 s.1.0 (first_checked ds game Cons a b c), nil_defined rs _ b p.1)
    else_defined t rs j e s c = absurd (both_ways false refl e)

    branches_defined : (t : Tree) (rs : List (ℕ × ℕ)) (j : ℕ) → is_phrase Branches t ≡ true → IsApt r Branches rs j t → Checked t → Defined (At position.Branches rs j t)
    branches_defined Empty rs j e s c = subst Defined (sym (empty_in r fine position.Branches rs j)) tt
    branches_defined (Node Cons (Node Branch us (Node Cons cells (Node Cons m b))) more) rs j e s c =
        let v = and_parts (is_phrase Arm (arm r fine us cells m b)) (is_phrase Branches more) e in
        let w = and_parts (is_phrase Binders us) _ v.0 in
        let x = and_parts (is_phrase Cells cells) _ w.1 in
        let y = and_parts (is_phrase Term m) (is_phrase Body b) x.1 in
        let k = first_checked ds game Cons (arm r fine us cells m b) more c in
        let l = second_checked ds game Cons m b (second_checked ds game Cons cells (Node Cons m b) (second_checked ds game Branch us (Node Cons cells (Node Cons m b)) k)) in
        subst Defined (sym (branch_in r fine rs j us cells m b more w.0))
        ((branch_typed ds game us (Node Cons cells (Node Cons m b)) k, body_defined b rs (body_number r fine rs j us) y.1 s.1.0.1.1.1.1.1.1 l), branches_defined more rs _ v.1 s.1.1 (second_checked ds game Cons (arm r fine us cells m b) more c))
    branches_defined (Node Cons (Node Branch us (Node Cons cells rest)) more) rs j e s c = absurd (both_ways false refl (guarded_of us cells rest more e))
    branches_defined (Node Cons (Node Branch us rest) more) rs j e s c = absurd (both_ways false refl (guards_of us rest more e))
    branches_defined (Node Cons a more) rs j e s c = absurd (both_ways false refl (arm_of a more e))
    branches_defined (Node h a b) rs j e s c = absurd (both_ways false refl e)
