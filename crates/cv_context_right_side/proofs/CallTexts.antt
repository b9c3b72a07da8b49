-- Each call of a game's context has its text.
use Rattle.std.proofs.Common.{◌≡◌, ℕ, ◌+◌, Bool, true, false, cond, ◌==◌, List, [], ◌∷◌, inl, inr, length, is_some, Option, Some, refl, sym, ap, subst, ◌∙◌, arith}
use Rattle.std.proofs.lemmas.Bool.{and_parts, both_ways, false_from_ne_true}
use Rattle.std.specs.Prelude.{slice_get}
use Rattle.cv_syntax_trees.specs.Tree.{Tree, Empty, Node, chain, first, second}
use Rattle.cv_meaning.specs.Memory.{Indices}
use Rattle.cv_meaning.specs.Tapes.{Tape, blank}
use Rattle.cv_meaning_laws.proofs.Listed.{Has}
use Rattle.cv_meaning.specs.contexts.Groups.{Group, Left, Right, function_at, functions_of, side_group}
use Rattle.cv_meaning.specs.contexts.Sides.{Context}
use Rattle.cv_group_rules.specs.Symbols.{symbols_of}
use Rattle.cv_group_rules.specs.Faults.{SameShape}
use Rattle.cv_group_rules.specs.Rules.{all_agree, functions_in, groups_agree, same_bound}
use Rattle.cv_scope_rules.specs.Phrases.{Inputs, is_oracle_phrase}
use Rattle.cv_scene.specs.Contexts.{call_terms}
use Rattle.cv_scene.specs.Reductions.{Reduction, context_of_game, sites}
use Rattle.cv_scene.specs.Sites.{Site}
use Rattle.cv_match_laws.proofs.instances.Coins.{site_call}
use Rattle.cv_context_laws.proofs.shape.Games.{context_part}
use Rattle.cv_context_laws.specs.calls.Calls.{AreCallsOf, IsCallOf}
use Rattle.cv_context_laws.proofs.calls.Found.{found, site_found}
use Rattle.cv_context_laws.proofs.calls.Games.{game_calls}
use Rattle.cv_meaning.specs.contexts.KeyTerms.{AreFineKeyTerms}
use Rattle.cv_meaning.specs.contexts.Inlined.{Caller, is_index_of, is_own}
use Rattle.cv_meaning.specs.contexts.Roles.{Replication, is_plain}
use Rattle.cv_inline.specs.NextGame.{Calling, call_of, callers_of, callings_of, numbered}
use Rattle.cv_inline_laws.specs.draws.DrawnNames.{find_in, has_indices}
use Rattle.cv_inline_laws.proofs.draws.Names.{label_again}
use Rattle.cv_inline_laws.specs.runs.Texts.{IsHere, Text, inlining_at, oracles_in, plain_in}
use Rattle.cv_context_runs.specs.visits.CallTexts.{HasCallTexts, IsAnswered, IsCallText, IsKeyRead}
use Rattle.cv_inline_names_laws.proofs.accepted.Functions.{accepted_fine}
use Rattle.cv_inline_names_laws.specs.accepted.RightBodies.{are_as_many}
use Rattle.cv_inline_names_laws.specs.cells.Cells.{names_in}
use Rattle.cv_inline_names_laws.specs.cells.Layout.{IsRightFunction}
use Rattle.cv_inline_names_laws.proofs.cells.Swaps.{made_swapped, picked_swapped}
use Rattle.cv_inline_names_laws.specs.drawn.Named.{NamedContext, arity_in, indices_of, named_on_tape, names_of, text_of}
use Rattle.cv_inline_names_laws.proofs.drawn.Sites.{each_called}
use Rattle.cv_inline_names_laws.proofs.covered.Functions.{all_callers, drawn_for}
use Rattle.cv_context_right_side.specs.texts.SiteTexts.{HasSiteText}
use Rattle.cv_context_right_side.specs.Right.{IsNamedFor}
use Rattle.cv_context_right_side.proofs.Agreed.{HasOther, from_map, many, other}
use Rattle.cv_context_right_side.proofs.Numbers.{IsGood, IsOfCall, calling_at, number_found, of_call, sites_related}
use Rattle.cv_context_right_side.proofs.Whole.{all_texts}
use Rattle.cv_syntax_trees.proofs.lists.Options.{AllByRecursion_slice_get, slice_get_map}
use Rattle.cv_meaning_laws.proofs.adequacy.Sorted.{all_has}

functions_alike : (s t : Tree) → groups_agree s t ≡ true → all_agree (second s) (second t) ≡ true
functions_alike (Node h a b) (Node k d e) g = (and_parts (same_bound h k) (all_agree b e) g).1
functions_alike Empty t g = absurd (both_ways false refl g)
functions_alike (Node h a b) Empty g = absurd (both_ways false refl g)

numbered_has : (l : ℕ) (cs : List Calling) (k : Calling) → numbered l cs ≡ Some k → Has cs k
numbered_has l [] k e = absurd (cc)
numbered_has l (x ∷ cs) k e = go (x.caller.number == l) e (numbered_has l cs k)
  where
    is : (x k : Calling) → ◌≡◌ {A = Option Calling} (Some x) (Some k) → k ≡ x
    is x k e = cc

    go : (b : Bool) → cond b (Some x) (numbered l cs) ≡ Some k → (numbered l cs ≡ Some k → Has cs k) → Has (x ∷ cs) k
    go true e ih = inl (is x k e)
    go false e ih = inr (ih e)

calling_is : (x k : Calling) → ◌≡◌ {A = Option Calling} (Some x) (Some k) → x ≡ k
calling_is x k e = cc

module _ (r : Reduction) (c : NamedContext) (n : IsNamedFor r c) (tape : Tape) where
  abbrev K : Context
  K = c.context

  abbrev T : Text
  T = named_on_tape c tape

  abbrev G : Group
  G = side_group Right K.equivalence

  abbrev cs : List Calling
  cs = callings_of K

  there : (k : Context) → k ≡ context_of_game r → (AreCallsOf r [] k.game) × (is_oracle_phrase Inputs k.game ≡ true)
  there k e = (
    subst (λ (k : Context). AreCallsOf r [] k.game) (sym e) (game_calls r n.apt.formed.phrase),
    subst (λ (k : Context). is_oracle_phrase Inputs k.game ≡ true) (sym e) (context_part r n.apt n.left).phrase,
  )

  other_of : (l : ℕ) (s : Site) → slice_get (sites r) l ≡ Some s → HasOther (functions_in Right K.equivalence) s.call.position s.call.function
  other_of l s at =
      other (functions_in Left K.equivalence) (functions_in Right K.equivalence)
      (functions_alike (first K.equivalence) (second K.equivalence) (and_parts (groups_agree (first K.equivalence) (second K.equivalence)) _ (n.form.accepted.kept SameShape)).0)
      s.call.position s.call.function
      (ap (λ (k : Context). slice_get (functions_of (functions_in Left k.equivalence)) s.call.position) n.context ∙ (site_call r n.left l s at).function)

  abbrev calling_of : (l : ℕ) (s : Site) → slice_get (sites r) l ≡ Some s → Calling
  calling_of l s at = calling_at l (other_of l s at).function (s.replications, call_terms s.call.instance)

  number : (l : ℕ) (s : Site) (at : slice_get (sites r) l ≡ Some s) → numbered l cs ≡ Some (calling_of l s at)
  number l s at =
      number_found G K.game K.functions 0 l l s.call.position (other_of l s at).function (s.replications, call_terms s.call.instance) (let z : l ≡ 0 + l = omega arith in z)
      (ap (λ (k : Context). slice_get k.functions l) n.context ∙ slice_get_map (λ (d : Site). d.call.position) (sites r) l s at)
      (other_of l s at).there
      (ap (λ (k : Context). call_of [] l k.game) n.context ∙ site_found r l c.g s n.apt.terms n.apt.formed.phrase (context_part r n.apt n.left).phrase (n.sites_apt l s at).listed at)

  arity : (k : Calling) → Has cs k → arity_in cs k.caller.number ≡ length k.caller.replications
  arity k h = ap indices_of (each_called c.g G K.game 0 K.functions k h).found

  not_plain : (rs : List (ℕ × ℕ)) → ((x : ℕ) → is_index_of rs x ≡ true → T.role x ≡ Replication) → (x : ℕ) → plain_in T x ≡ true → is_index_of rs x ≡ false
  not_plain rs f x e = false_from_ne_true (is_index_of rs x) (λ i. both_ways (is_plain (T.role x)) (ap is_plain (f x i)) e)

  has_function : (j q : ℕ) → slice_get K.functions j ≡ Some q → is_some (function_at G q) ≡ true
  has_function j q e =
      let f = from_map (λ (d : Site). d.call.position) (sites r) j q (sym (ap (λ (k : Context). slice_get k.functions j) n.context) ∙ e) in
      ap (λ m. is_some (function_at G m)) (sym f.is) ∙ ap is_some (other_of j f.item f.there).there

  good : (caller : Caller) (at : Indices) (h : IsHere T caller at) (k : Calling) → Has cs k → IsGood G K.game (inlining_at T caller at h) (plain_in T) (oracles_in T) refl k.caller
  good caller at h k m =
      let f : IsOfCall G K.game k = of_call G K.game K.functions 0 k m in
      let w = there K n.context in
      let i = (found r k.caller.number K.game Inputs [] f.found w.1 w.0 f.call).call in
      let t : HasSiteText (text_of c blank blank) i.site = n.texts k.caller.number i.site i.listed in
      let rs : i.site.replications ≡ k.caller.replications = i.replications ∙ sym f.replications in
      let key : first i.site.call.instance.key ≡ k.caller.key = ap (λ ts. first (first ts)) (sym i.instance) ∙ sym f.key in
      record {
        arity = arity k m;
        own = subst (λ qs. (x : ℕ) → plain_in T x ≡ true → is_index_of qs x ≡ false) rs (not_plain i.site.replications t.indices.roles);
        key_terms = subst (λ ts. AreFineKeyTerms (is_index_of k.caller.replications) (plain_in T) ts) key (subst (λ qs. AreFineKeyTerms (is_index_of qs) (plain_in T) (first i.site.call.instance.key)) rs t.key_terms);
      }

  key_read : (l : ℕ) (s : Site) (at : slice_get (sites r) l ≡ Some s) → IsKeyRead T (calling_of l s at).caller s.call.instance.key
  key_read l s at =
      let t = n.texts l s at in
      record { name = (n.sites_apt l s at).key ∙ ap Some (sym n.key); terms = refl; plain = t.key_terms; no_constants = t.no_constants; many = t.key_length; gone = n.gone; constant = n.key_constant }

  answered : (l : ℕ) (s : Site) (at : slice_get (sites r) l ≡ Some s) → IsAnswered T (calling_of l s at).caller (other_of l s at).function (chain s.call.instance.arguments)
  answered l s at =
      let k : Calling = calling_of l s at in
      let o = other_of l s at in
      let m : Has cs k = numbered_has l cs k (number l s at) in
      let right : IsRightFunction o.function = AllByRecursion_slice_get IsRightFunction G.functions n.form.functions s.call.position o.function o.there in
      record {
        function = λ w. (each_called c.g G K.game 0 K.functions k m).function;
        no_coins = right.coins;
        body = λ at' h. accepted_fine (symbols_of r.scene.declarations) K.equivalence s.call.position o.function (inlining_at T k.caller at' h) (callers_of cs) (chain s.call.instance.arguments)
            n.form.accepted n.form.side o.there
            (subst (λ xs. are_as_many xs (chain s.call.instance.arguments) ≡ true) (sym o.arguments) (many s.call.function.arguments s.call.instance.arguments (n.sites_apt l s at).many))
            (drawn_for (symbols_of r.scene.declarations) K.equivalence K.game K.functions c.names c.labels c.game_role n.form.accepted n.form.side n.form.functions n.form.bare k m (inlining_at T k.caller at' h)
            (record {
              caller = refl;
              names = λ z x e. e;
              finds = λ q e. e;
              opens = all_callers (λ (z : Caller). (q b : ℕ) → has_indices (names_of c) l q z.number b 0 (length z.replications) ≡ true → has_indices (names_of c) l q z.number b 0 (arity_in cs z.number) ≡ true) cs
                  (λ j i q b e. subst (λ w. has_indices (names_of c) l q j.caller.number b 0 w ≡ true) (sym (arity j i)) e);
              constant = n.constant_there;
            }));
        plain_arguments = (n.texts l s at).arguments;
        sites = λ at' h. sites_related G K.game (inlining_at T k.caller at' h) (plain_in T) (oracles_in T) refl K.functions 0 has_function (good k.caller at' h);
      }

  call_text : (rs : List (ℕ × ℕ)) (x l : ℕ) (terms : Tree) → IsCallOf r rs x l terms → IsCallText T rs x l terms
  call_text rs x l terms i =
      let s : Site = i.site in
      let k : Calling = calling_of l s i.listed in
      let t : HasSiteText (text_of c blank blank) s = n.texts l s i.listed in
      let m : Has cs k = numbered_has l cs k (number l s i.listed) in
      record {
        calling = k;
        at_site = number l s i.listed;
        number = refl;
        answer = i.answer ∙ sym (n.answers l (n.sites_apt l s i.listed).listed);
        replications = i.replications;
        alone = all_callers (λ (z : Caller). z.number ≡ l → z ≡ k.caller) cs
            (λ j h e. ap (λ (z : Calling). z.caller) (calling_is j k (sym (each_called c.g G K.game 0 K.functions j h).found ∙ ap (λ w. numbered w cs) e ∙ number l s i.listed)));
        indices = record { roles = t.indices.roles; drawn = t.indices.drawn; constants = t.indices.constants };
        key = subst (λ ts. IsKeyRead T k.caller (first ts)) (sym i.instance) (key_read l s i.listed);
        drawn = record {
          own = all_has (λ (z : Calling). (x : ℕ) → c.constant x ≡ true → is_own z.caller x ≡ false) cs n.form.own k m;
          arity = sym (ap indices_of (number l s i.listed));
          chosen = λ z w e. ap tape (made_swapped (names_in (text_of c blank blank) (find_in (names_of c))) z w l (T.variables l z e));
          picked = λ q w e. ap tape (picked_swapped (names_in (text_of c blank blank) (find_in (names_of c))) q w l (label_again (names_of c) c.apart l q e));
        };
        answered = subst (λ ts. IsAnswered T k.caller k.function (second ts)) (sym i.instance) (answered l s i.listed);
      }

  pub call_texts : HasCallTexts T [] K.game
  call_texts = let w = there K n.context in all_texts T r call_text K.game Inputs [] w.1 w.0
