-- A context whose names are drawn, and whose right functions are of the grammar, is laid out.
use Rattle.std.proofs.Common.{◌≡◌, ℕ, zero, suc, true, false, ◌==◌, List, [], ◌∷◌, length, slice_get, option_and_then, inl, inr, Option, Some, None, refl, sym, ap, subst}
use Rattle.std.proofs.lemmas.Bool.{both_ways, and_parts}
use Rattle.std.specs.List.{AllByRecursion}
use Rattle.cv_syntax_trees.specs.declared.head.Head.TheVariants.{New, Let, If, Find, Branch, Cons, Binder}
use Rattle.cv_syntax_trees.specs.Tree.{Tree, Empty, Node, first_place, second_place}
use Rattle.cv_meaning.specs.Tapes.{Tape, blank}
use Rattle.cv_syntax_trees.specs.Declarations.{Declaration}
use Rattle.cv_meaning.specs.Side.{CallNumber, no_side}
use Rattle.cv_meaning.specs.Interpretation.{Interpretation, Setting, setting_of}
use Rattle.cv_meaning.specs.Runs.{Adversary, Events}
use Rattle.cv_meaning.specs.Experiments.{Experiment, mode_of}
use Rattle.cv_meaning.specs.Chances.{Same}
use Rattle.cv_meaning.specs.Advantage.{chance_of}
use Rattle.cv_meaning.specs.contexts.ContextAdvantage.{context_chance}
use Rattle.cv_inline_laws.specs.runs.Contexts.{IsTextOf}
use Rattle.cv_meaning_laws.proofs.Listed.{Has}
use Rattle.cv_meaning.specs.contexts.Groups.{Function, Right, side_group}
use Rattle.cv_meaning.specs.contexts.Bodies.{body_place, function_called}
use Rattle.cv_meaning.specs.contexts.Finds.{function_of_site}
use Rattle.cv_meaning.specs.contexts.Sites.{Site, site_numbered, sites_of}
use Rattle.cv_meaning.specs.contexts.Inlined.{Caller}
use Rattle.cv_inline.specs.NextGame.{Calling, callers_of, callings_of, next_of}
use Rattle.cv_inline_laws.specs.draws.DrawnNames.{AreBranchesDrawn, AreIndicesDrawn, DrawnNames, IsBodyDrawn, IsCallDrawn, drawn_in, find_in, has_indices}
use Rattle.cv_inline_laws.proofs.draws.Covered.{calls_covered}
use Rattle.cv_inline_laws.specs.runs.Texts.{Text, oracles_in}
use Rattle.cv_inline_names_laws.specs.cells.Layout.{AreRightBranches, IsCallText, IsContextText, IsLaidOut, IsRightFunction, IsRightText, IsTypedBy, IsTypedFunction, are_right_texts, is_right_text, is_term}
use Rattle.cv_inline_names_laws.specs.drawn.Named.{NamedContext, arity_in, indices_of, named_on_tape, names_of, text_of, type_called, types_of}
use Rattle.cv_inline_names_laws.proofs.cells.Chances.{chances_of_context}
use Rattle.cv_inline_names_laws.proofs.cells.Sizes.{keys_are_terms}
use Rattle.cv_inline_names_laws.proofs.drawn.Sites.{IsCalled, each_called}

no_adversary : Adversary
no_adversary = record { coins = []; coins_have_values = tt; moves = 0; next = λ coins answers. None }

module _ (c : NamedContext) where
  abbrev T : Text
  T = text_of c blank blank

  abbrev cs : List Calling
  cs = callings_of c.context

  abbrev ss : List Caller
  ss = callers_of (callings_of c.context)

  abbrev d : DrawnNames
  d = names_of c

  is_called : (k : Calling) → Has cs k → IsCalled c.g (side_group Right c.context.equivalence) c.context.game 0 c.context.functions k
  is_called k h = each_called c.g (side_group Right c.context.equivalence) c.context.game 0 c.context.functions k h

  arity : (k : Calling) → Has cs k → arity_in cs k.caller.number ≡ length k.caller.replications
  arity k h = ap indices_of (is_called k h).found

  -- names

  abbrev AreOpened : (n q k : ℕ) → List Caller → (bound : ℕ) → Type 0
  AreOpened n q k ts b = AllByRecursion (λ (s : Caller). (s.bound == b) ≡ true → T.opens n q s.number k ≡ true) ts

  abbrev HaveArities : List Caller → Type 0
  HaveArities ts = AllByRecursion (λ (s : Caller). arity_in cs s.number ≡ length s.replications) ts

  arities : (ks : List Calling) → ((k : Calling) → Has ks k → Has cs k) → HaveArities (callers_of ks)
  arities [] f = tt
  arities (k ∷ ks) f = (arity k (f k (inl refl)), arities ks (λ e h. f e (inr h)))

  open_branches : (n q k u b : ℕ) (x y rest more : Tree) (ts : List Caller) → HaveArities ts → AllByRecursion (λ s. AreIndicesDrawn d n q s k (Node Cons (Node Branch (Node (Binder u b) x y) rest) more)) ts → AreOpened n q k ts b
  unfolding AreIndicesDrawn
  open_branches n q k u b x y rest more [] a e = tt
  open_branches n q k u b x y rest more (s ∷ ts) a e = ((λ f. subst (λ j. has_indices d n q s.number k 0 j ≡ true) (sym a.0) (e.0.0 f)), open_branches n q k u b x y rest more ts a.1 e.1)

  later_indices : (n q k u b : ℕ) (x y rest more : Tree) (ts : List Caller) → AllByRecursion (λ s. AreIndicesDrawn d n q s k (Node Cons (Node Branch (Node (Binder u b) x y) rest) more)) ts → AllByRecursion (λ s. AreIndicesDrawn d n q s (suc k) more) ts
  unfolding AreIndicesDrawn
  later_indices n q k u b x y rest more [] e = tt
  later_indices n q k u b x y rest more (s ∷ ts) e = (e.0.1, later_indices n q k u b x y rest more ts e.1)

  module _ (a : HaveArities ss) where
    mutual
      unfolding IsRightText IsBodyDrawn is_right_text

      body_text : (n q : ℕ) (t : Tree) → is_right_text t ≡ true → IsBodyDrawn d ss n q t → IsRightText T ss n q t
      body_text n q (Node (New z U) x b) e f = (f.0, body_text n (second_place q (New z U) x) b e f.1)
      body_text n q (Node (Let z U) x b) e f = let p = and_parts (is_term x) _ e in (f.0, p.0, body_text n (second_place q (Let z U) x) b p.1 f.1)
      body_text n q (Node If x (Node Cons b (Node Cons y z))) e f =
          let p = and_parts (is_term x) _ e in
          let r = and_parts (is_right_text b) _ p.1 in
          let j : ℕ = second_place q If x in (p.0, body_text n (first_place j Cons) b r.0 f.0, body_text n (first_place (second_place j Cons b) Cons) y r.1 f.1)
      body_text n q (Node (Find l) x b) e f =
          let p = and_parts (are_right_texts x) _ e in (arms_text n q 0 (first_place q (Find l)) x p.0 f.1 f.2, body_text n (second_place q (Find l) x) b p.1 f.3)
      body_text n q (Node If x y) e f = e
      body_text n q t e f = e

      arms_text : (n q k r : ℕ) (t : Tree) → are_right_texts t ≡ true → AllByRecursion (λ s. AreIndicesDrawn d n q s k t) ss → AreBranchesDrawn d ss n r t → AreRightBranches T ss n q k r t
      arms_text n q k r Empty e f g = tt
      arms_text n q k r (Node Cons (Node Branch (Node (Binder u b) x y) (Node Cons cells (Node Cons m body))) more) e f g =
          let p = and_parts (is_term cells) _ e in
          let s = and_parts (is_term m) _ p.1 in
          let v = and_parts (is_right_text body) _ s.1 in
          let w : ℕ = second_place r Cons (Node Branch (Node (Binder u b) x y) (Node Cons cells (Node Cons m body))) in (
            open_branches n q k u b x y (Node Cons cells (Node Cons m body)) more ss a f,
            p.0,
            s.0,
            body_text n (body_place r Cons Branch (Node (Binder u b) x y) Cons cells Cons m) body v.0 g.0,
            arms_text n q (suc k) w more v.1 (later_indices n q k u b x y (Node Cons cells (Node Cons m body)) more ss f) g.1,
          )
      arms_text n q k r t e f g = absurd (both_ways false refl e)

  -- functions

  at_position : (P : Function → Type 0) (fs : List Function) → AllByRecursion P fs → (k : ℕ) (f : Function) → slice_get fs k ≡ Some f → P f
  at_position P [] e k f q = absurd (cc)
  at_position P (g ∷ fs) e zero f q = subst P (let z : g ≡ f = cc in z) e.0
  at_position P (g ∷ fs) e (suc k) f q = at_position P fs e.1 k f q

  module _ (right : AllByRecursion IsRightFunction (side_group Right c.context.equivalence).functions) where
    right_function : (n : CallNumber) (f : Function) → function_called (oracles_in T) n ≡ Some f → IsRightFunction f
    right_function n f e = go (site_numbered (oracles_in T).sites n.site) e
      where
        go : (o : Option Site) → option_and_then (function_of_site (oracles_in T)) o ≡ Some f → IsRightFunction f
        go None q = absurd (cc)
        go (Some s) q = at_position IsRightFunction (side_group Right c.context.equivalence).functions right s.function f q

    module _ (game : ℕ → ℕ) where
      typed_function : (n : CallNumber) (f : Function) → function_called (oracles_in T) n ≡ Some f → IsTypedFunction T ((types_of c game).at_site n.site) f
      typed_function n f e =
          let r = right_function n f e in
          record {
            coins = subst (λ xs. AllByRecursion (λ (x : ℕ × ℕ). x.1 ≡ (types_of c game).at_site n.site x.0) xs) (sym r.coins) tt;
            body = subst (λ o. IsTypedBy (type_called o) f.body) (sym e) r.typed;
          }

      call_text : (k : Calling) → Has cs k → is_term k.caller.key ≡ true → IsCallDrawn d ss k → IsCallText T (types_of c game) k
      call_text k h key drawn =
          let called_here : function_called (oracles_in T) (record { tuple = []; site = k.caller.number }) ≡ Some k.function = (is_called k h).function in
          let r = right_function (record { tuple = []; site = k.caller.number }) k.function called_here in
          record {
            key = key;
            indices = arity k h;
            arguments = drawn.arguments;
            body = body_text (arities cs (λ e h. h)) k.caller.number 0 k.function.body r.body drawn.body;
            typed = subst (λ o. IsTypedBy (type_called o) k.function.body) (sym called_here) r.typed;
          }

      calls_text : (ks : List Calling) → ((k : Calling) → Has ks k → Has cs k) → AllByRecursion (λ (k : Calling). is_term k.caller.key ≡ true) ks → AllByRecursion (IsCallDrawn d ss) ks → AllByRecursion (IsCallText T (types_of c game)) ks
      calls_text [] f e g = tt
      calls_text (k ∷ ks) f e g = (call_text k (f k (inl refl)) e.0 g.0, calls_text ks (λ x h. f x (inr h)) e.1 g.1)

      pub laid_out : c.g.side ≡ no_side → IsContextText T game c.context.game → IsLaidOut T (types_of c game) c.context.game
      laid_out side text = record {
        game = side;
        text = text;
        calls = calls_text cs (λ k h. h) (keys_are_terms T (λ l. None) (types_of c game) Events no_adversary c.context.game text (side_group Right c.context.equivalence) 0 c.context.functions) (calls_covered (side_group Right c.context.equivalence) (callings_of c.context) c.names c.labels c.game_role);
        functions = typed_function;
      }

pub chances_of_named : (c : NamedContext) (game : ℕ → ℕ) (x : Experiment) (a : Adversary) (declarations : List Declaration) (i : Interpretation) → c.g ≡ setting_of declarations i
    → AllByRecursion IsRightFunction (side_group Right c.context.equivalence).functions
    → IsContextText (text_of c blank blank) game c.context.game → ((t : Tape) → IsTextOf (named_on_tape c t) (mode_of x) a c.context.game)
    → Same (context_chance declarations i c.context Right x a) (chance_of (setting_of declarations i) x a (next_of c.context c.key (drawn_in (names_of c))))
chances_of_named c game x a declarations i e right text texts =
    chances_of_context (text_of c blank blank) (find_in (names_of c)) (types_of c game) x a declarations i c.context c.key (drawn_in (names_of c)) e refl
    (ap (λ g. sites_of g c.context.game c.context.functions) e) (laid_out c right game (ap (λ (g : Setting). g.side) e) text) texts
