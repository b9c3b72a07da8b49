-- What a call hands over, and what it draws: terms, and coins with the sizes of their variables.
use Rattle.std.proofs.Common.{◌≡◌, ℕ, suc, Bool, true, false, cond, ◌&&◌, ◌==◌, not, List, [], ◌∷◌, ◌++◌, filter, map, Option, Some, None, refl, sym, ap, ap₂, subst, ◌∙◌, eqb-true}
use Rattle.std.proofs.lemmas.Bool.{both_ways, and_parts}
use Rattle.std.specs.List.{AllByRecursion}
use Rattle.std.specs.Prelude.{option_map}
use Rattle.cv_syntax_trees.specs.declared.head.Head.{Head}
use Rattle.cv_syntax_trees.specs.declared.head.Head.TheVariants.{Find, Leaf, New}
use Rattle.cv_syntax_trees.specs.Tree.{Tree, Empty, Node, chain, first, first_place, same_tree, second, second_place}
use Rattle.cv_meaning.specs.Cells.{without_repeats}
use Rattle.cv_meaning.specs.Interpretation.{Interpretation}
use Rattle.cv_meaning.specs.Side.{CallNumber}
use Rattle.cv_meaning.specs.Tapes.{Cell, Made_at, New_at, same_cell}
use Rattle.cv_meaning_laws.specs.adequacy.Typed as meaning
use Rattle.cv_meaning.specs.contexts.Bodies.{function_called}
use Rattle.cv_meaning.specs.contexts.Groups.{Function, Group}
use Rattle.cv_meaning.specs.contexts.Sides.{body_cells, cells_here, chosen_cell, function_cells}
use Rattle.cv_syntax_trees.specs.sites.Sites.{Variable, first_of, first_site}
use Rattle.cv_syntax_trees.specs.declared.sites.sort.Sort.{Sort}
use Rattle.cv_syntax_trees.specs.declared.sites.sort.Sort.TheVariants.{BelowParameter, OfType}
use Rattle.cv_typing_runs.specs.Games.{context_of, variable_of_meaning}
use Rattle.cv_scope_rules.specs.Context.{cell_of, first_position, replications_below, second_position}
use Rattle.cv_scope_rules.specs.Phrases.{Term}
use Rattle.cv_scope_rules.specs.declared.position.Position.{Position}
use Rattle.cv_scene.specs.Scenes.{or_empty}
use Rattle.cv_scene.specs.Sights.{variable_of}
use Rattle.cv_scene.specs.Terms.{is_sort, signature_in}
use Rattle.cv_steps.proofs.Sizes.{name_of}
use Rattle.cv_scene.specs.Instances.{Call, Instance, Matching, are_of_types, call_at, call_by, filled, first_call, guess, is_argument_of, is_coin_of, is_instance, is_read_of, is_variable_of, standing_for, standing_here, term_for}
use Rattle.cv_scene.specs.Sites.{Site, is_guard, sites_in}
use Rattle.cv_scene.specs.Contexts.{call_terms}
use Rattle.cv_scene.specs.Reductions.{Reduction, is_answer, matching, oracles}
use Rattle.cv_scene.specs.Cells.{at_left}
use Rattle.cv_scene.specs.Apt.{AreCoinsApt, IsSiteApt}
use Rattle.cv_context_runs.proofs.service.Kept.{answers_are}
use Rattle.cv_context_runs.proofs.service.Runs.{again}
use Rattle.cv_context_left_side.proofs.cells.Flat.{has_terms_alone, head_is_term, phrase_terms}

-- what stands for names is part of the term

first_terms : (o p : Option Tree) → has_terms_alone (or_empty o) ≡ true → has_terms_alone (or_empty p) ≡ true → has_terms_alone (or_empty (first_of o p)) ≡ true
first_terms None p e f = f
first_terms (Some t) p e f = e

here_terms : (x : ℕ) (h : Head) (m : Tree) → has_terms_alone m ≡ true → has_terms_alone (or_empty (standing_here x h m)) ≡ true
here_terms x (Leaf y) m e = go (y == x)
  where
    go : (b : Bool) → has_terms_alone (or_empty (cond b (Some m) None)) ≡ true
    go true = e
    go false = refl
here_terms x h m e = refl

first_child : (m : Tree) → has_terms_alone m ≡ true → has_terms_alone (first m) ≡ true
first_child Empty e = refl
first_child (Node h a b) e = (and_parts (has_terms_alone a) _ (and_parts (head_is_term h) _ e).1).0

second_child : (m : Tree) → has_terms_alone m ≡ true → has_terms_alone (second m) ≡ true
second_child Empty e = refl
second_child (Node h a b) e = (and_parts (has_terms_alone a) _ (and_parts (head_is_term h) _ e).1).1

standing_terms : (x : ℕ) (body m : Tree) → has_terms_alone m ≡ true → has_terms_alone (or_empty (standing_for x body m)) ≡ true
unfolding standing_for
standing_terms x Empty m e = refl
standing_terms x (Node h a b) m e =
    first_terms (standing_here x h m) (first_of (standing_for x a (first m)) (standing_for x b (second m))) (here_terms x h m e)
    (first_terms (standing_for x a (first m)) (standing_for x b (second m)) (standing_terms x a (first m) (first_child m e)) (standing_terms x b (second m) (second_child m e)))

chain_terms : (body m : Tree) → has_terms_alone m ≡ true → (xs : List (ℕ × ℕ)) → has_terms_alone (chain (map (term_for body m) xs)) ≡ true
chain_terms body m e [] = refl
chain_terms body m e (x ∷ xs) = ap₂ ◌&&◌ (standing_terms x.0 body m e) (chain_terms body m e xs)

guess_terms : (g : Group) (f : Function) (m : Tree) → has_terms_alone m ≡ true → has_terms_alone (call_terms (guess g f m)) ≡ true
guess_terms g f m e = ap₂ ◌&&◌ (standing_terms g.key.0 f.body m e) (chain_terms f.body m e f.arguments)

-- a call that is found in terms

pub record IsFound (M : Matching) (c : Call) : Type 0 where
  pub terms : has_terms_alone (call_terms c.instance) ≡ true
  pub coins : are_of_types (is_coin_of M) c.function.coins c.instance.coins ≡ true

coins_of : (M : Matching) (f : Function) (I : Instance) (t : Tree) → is_instance M f I t ≡ true → are_of_types (is_coin_of M) f.coins I.coins ≡ true
coins_of M f I t e =
    let p = and_parts (same_tree (filled M.group f I) t) (is_read_of M.key (variable_of I.key) && (are_of_types (is_coin_of M) f.coins I.coins && are_of_types (is_argument_of M) f.arguments I.arguments)) e in
    let q = and_parts (is_read_of M.key (variable_of I.key)) (are_of_types (is_coin_of M) f.coins I.coins && are_of_types (is_argument_of M) f.arguments I.arguments) p.1 in
    (and_parts (are_of_types (is_coin_of M) f.coins I.coins) (are_of_types (is_argument_of M) f.arguments I.arguments) q.1).0

found : (M : Matching) (t : Tree) (c : Call) → has_terms_alone t ≡ true → (k : ℕ) (fs : List Function) → first_call M k fs t ≡ Some c → IsFound M c
found M t c e k [] z = absurd (none z)
  where
    none : ◌≡◌ {A = Option Call} None (Some c) → ⊥
    none e = cc
found M t c e k (f ∷ fs) z = go (is_instance M f (guess M.group f t) t) refl z (found M t c e (suc k) fs)
  where
    here : Call
    here = record { position = k; function = f; instance = guess M.group f t }

    go : (b : Bool) → is_instance M f (guess M.group f t) t ≡ b → first_of (call_by k f (cond b (Some (guess M.group f t)) None)) (first_call M (suc k) fs t) ≡ Some c → (first_call M (suc k) fs t ≡ Some c → IsFound M c) → IsFound M c
    go true i z ih =
        let same : here ≡ c = cc in
        subst (IsFound M) same (record { terms = guess_terms M.group f t e; coins = coins_of M f (guess M.group f t) t i })
    go false i z ih = ih z

-- those in terms

abbrev pub AreFound : Matching → List Site → Type 0
AreFound M ss = AllByRecursion (λ (s : Site). IsFound M s.call) ss

found_append : (M : Matching) (ss rest : List Site) → AreFound M ss → AreFound M rest → AreFound M (ss ++ rest)
found_append M [] rest f e = e
found_append M (s ∷ ss) rest f e = (f.0, found_append M ss rest f.1 e)

pub sites_found : (M : Matching) (w : Position) (rs : List (ℕ × ℕ)) (p : ℕ) (t : Tree) → has_terms_alone t ≡ true → AreFound M (sites_in M w rs p t)
unfolding sites_in
sites_found M w rs p Empty e = tt
sites_found M w rs p (Node h a b) e =
    let q = and_parts (has_terms_alone a) _ (and_parts (head_is_term h) _ e).1 in
    go (call_at M (Node h a b)) refl (is_guard w) (sites_found M (first_position w h) rs (first_place p h) a q.0) (sites_found M (second_position w h) (replications_below h rs) (second_place p h a) b q.1)
  where
    inner : List Site
    inner = sites_in M (first_position w h) rs (first_place p h) a

    outer : List Site
    outer = sites_in M (second_position w h) (replications_below h rs) (second_place p h a) b

    inside : (z : Bool) → AreFound M inner → AreFound M (cond z [] inner)
    inside true f = tt
    inside false f = f

    go : (o : Option Call) → call_at M (Node h a b) ≡ o → (z : Bool) → AreFound M inner → AreFound M outer → AreFound M (elim o as (λ _. List Site) [
      | Some c ↦ record { place = p; term = Node h a b; replications = rs; call = c } ∷ []
      | None ↦ cond z [] inner ++ outer
    ])
    go (Some c) f z i j = (found M (Node h a b) c e 0 M.group.functions f, tt)
    go None f z i j = found_append M (cond z [] inner) outer (inside z i) j

-- what a call draws: a cell that stands for one of the game, with the size of its variable

abbrev pub game_sorts : Reduction → meaning.Context
game_sorts r = context_of r.scene.declarations r.scene.game

pub record IsDrawnFor (r : Reduction) (i : Interpretation) (c : Cell × ℕ) : Type 0 where
  pub variable : ℕ
  pub tuple : List ℕ
  pub cell : at_left r c.0 ≡ New_at variable tuple
  pub size : c.1 ≡ i.type_size (name_of ((game_sorts r).variables variable))

variable_of_cell : (rs : List (ℕ × ℕ)) (x : ℕ) → variable_of (cell_of rs x) ≡ Some x
variable_of_cell [] x = refl
variable_of_cell (r ∷ rs) x = refl

named_sort : (T : ℕ) (S : Sort) (ps : List ℕ) → is_sort (Some S) (OfType T) ≡ true → T ≡ name_of (Some (variable_of_meaning (record { parameters = ps; sort = S })))
named_sort T (OfType U) ps e = sym (eqb-true U T e)
named_sort T (BelowParameter n) ps e = absurd (both_ways false refl e)

named : (T : ℕ) (o : Option Variable) → is_sort (option_map (λ (v : Variable). v.sort) o) (OfType T) ≡ true → T ≡ name_of (option_map variable_of_meaning o)
named T None e = absurd (both_ways false refl e)
named T (Some v) e = named_sort T v.sort v.parameters e

coin_named : (r : Reduction) (T y : ℕ) (m : Tree) → variable_of m ≡ Some y → is_coin_of (matching r) T m ≡ true → T ≡ name_of ((game_sorts r).variables y)
coin_named r T y m f e = named T (first_site y [] r.scene.game) (sym (ap (is_variable_of (signature_in r.scene) T) f) ∙ e)

coins_drawn : (r : Reduction) (i : Interpretation) (rs : List (ℕ × ℕ)) (k : ℕ) (n : CallNumber) → n.site ≡ k → (zs : List (ℕ × ℕ)) (ms : List Tree) → AreCoinsApt r rs k zs ms → are_of_types (is_coin_of (matching r)) zs ms ≡ true
    → AllByRecursion (IsDrawnFor r i) (map (chosen_cell i n) zs)
coins_drawn r i rs k n f [] ms c e = tt
coins_drawn r i rs k n f (z ∷ zs) [] c e = absurd c
coins_drawn r i rs k n f (z ∷ zs) (m ∷ ms) c e =
    let p = and_parts (is_coin_of (matching r) z.1 m) (are_of_types (is_coin_of (matching r)) zs ms) e in
    let y : ℕ = c.0.variable in (
      record {
        variable = y;
        tuple = n.tuple;
        cell = ap (λ l. at_left r (Made_at z.0 n.tuple l)) f ∙ ap (at_left r) (sym (c.0.cell n.tuple)) ∙ again r (New_at y n.tuple);
        size = ap i.type_size (coin_named r z.1 y m (ap variable_of c.0.is ∙ variable_of_cell rs y) p.0);
      },
      coins_drawn r i rs k n f zs ms c.1 p.1,
    )

each_filtered : (P : (Cell × ℕ) → Type 0) (p : (Cell × ℕ) → Bool) (cs : List (Cell × ℕ)) → AllByRecursion P cs → AllByRecursion P (filter p cs)
each_filtered P p [] e = tt
each_filtered P p (c ∷ cs) e = go (p c) (each_filtered P p cs e.1)
  where
    go : (b : Bool) → AllByRecursion P (filter p cs) → AllByRecursion P (cond b (c ∷ filter p cs) (filter p cs))
    go true k = (e.0, k)
    go false k = k

pub each_once : (P : (Cell × ℕ) → Type 0) (cs : List (Cell × ℕ)) → AllByRecursion P cs → AllByRecursion P (without_repeats cs)
each_once P [] e = tt
each_once P (c ∷ cs) e = (e.0, each_filtered P (λ (d : Cell × ℕ). not (same_cell d.0 c.0)) (without_repeats cs) (each_once P cs e.1))

no_cells_here : (i : Interpretation) (n : CallNumber) (p : ℕ) (h : Head) → head_is_term h ≡ true → cells_here i n p h ≡ []
no_cells_here i n p (New x T) e = absurd (both_ways false refl e)
no_cells_here i n p (Find l) e = absurd (both_ways false refl e)
no_cells_here i n p h e = refl

no_body_cells : (i : Interpretation) (n : CallNumber) (p : ℕ) (t : Tree) → has_terms_alone t ≡ true → body_cells i n p t ≡ []
unfolding body_cells
no_body_cells i n p Empty e = refl
no_body_cells i n p (Node h a b) e =
    let q = and_parts (head_is_term h) _ e in
    let s = and_parts (has_terms_alone a) _ q.1 in
    ap₂ ◌++◌ (no_cells_here i n p h q.0) (ap₂ ◌++◌ (no_body_cells i n (first_place p h) a s.0) (no_body_cells i n (second_place p h a) b s.1))

append_nothing : (cs : List (Cell × ℕ)) → cs ++ [] ≡ cs
append_nothing [] = refl
append_nothing (c ∷ cs) = ap (λ ds. c ∷ ds) (append_nothing cs)

function_drawn : (r : Reduction) (i : Interpretation) (rs : List (ℕ × ℕ)) (k : ℕ) (n : CallNumber) → n.site ≡ k → (s : Site) → IsSiteApt r rs k s → IsFound (matching r) s.call
    → AllByRecursion (IsDrawnFor r i) (function_cells i n (function_called (oracles r i) n))
function_drawn r i rs k n f s apt found =
    subst (λ o. AllByRecursion (IsDrawnFor r i) (function_cells i n o)) (sym (apt.called i n f))
    (each_once (IsDrawnFor r i) (map (chosen_cell i n) s.call.function.coins ++ body_cells i n 0 s.call.function.body)
    (subst (AllByRecursion (IsDrawnFor r i)) (sym (ap (λ cs. map (chosen_cell i n) s.call.function.coins ++ cs) (no_body_cells i n 0 s.call.function.body (phrase_terms Term s.call.function.body refl apt.left.term)) ∙ append_nothing (map (chosen_cell i n) s.call.function.coins)))
    (coins_drawn r i rs k n f s.call.function.coins s.call.instance.coins apt.coins found.coins)))

-- a call of a context
pub record IsCalled (r : Reduction) (x k : ℕ) (terms : Tree) : Type 0 where
  pub answer : is_answer r x ≡ true
  pub alone : has_terms_alone terms ≡ true
  pub drawn : (i : Interpretation) (n : CallNumber) → n.site ≡ k → AllByRecursion (IsDrawnFor r i) (function_cells i n (function_called (oracles r i) n))

pub site_called : (r : Reduction) (rs : List (ℕ × ℕ)) (k : ℕ) (s : Site) → IsSiteApt r rs k s → IsFound (matching r) s.call → IsCalled r (r.answer k) k (call_terms s.call.instance)
site_called r rs k s apt found = record {
  answer = answers_are r k apt.listed;
  alone = found.terms;
  drawn = λ i n f. function_drawn r i rs k n f s apt found;
}
