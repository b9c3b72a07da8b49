-- What the conditions of the step say of a game and its next one.
use Rattle.std.proofs.Common.{◌≡◌, ℕ, suc, ◌==◌, ◌&&◌, ◌||◌, Bool, true, false, not, nat_lt, List, [], ◌∷◌, length, None, refl, sym, ap, subst, ◌∙◌, eq-eqb, eqb-true}
use Rattle.std.proofs.lemmas.Bool.{and_parts, both_ways, not-true}
use Rattle.std.specs.List.{list_all}
use Rattle.cv_syntax_trees.specs.Tree.{Tree}
use Rattle.cv_meaning.specs.Advantage.{IsAsked}
use Rattle.cv_meaning.specs.Experiments.{Breaks, Experiment, Guesses, holds_on, mode_of, visits_of_run}
use Rattle.cv_meaning.specs.Interpretation.{Interpretation, Setting, setting_of}
use Rattle.cv_meaning.specs.Queries.{queries_in}
use Rattle.cv_meaning.specs.Runs.{Adversary, Events, Random, Real}
use Rattle.cv_meaning.specs.Serving.{Visit}
use Rattle.cv_meaning.specs.Tapes.{Tape}
use Rattle.cv_scope_rules.specs.Behind.{sites_of}
use Rattle.cv_scope_rules.specs.Context.{Context}
use Rattle.cv_scope_rules.specs.Phrases.{IsWellFormed}
use Rattle.cv_scope_rules.specs.Scope.{is_variable}
use Rattle.cv_scope_runs.proofs.FactsRuns.{well_game}
use Rattle.cv_scope_runs.proofs.Plain.{game_context}
use Rattle.cv_scene.specs.Scenes.{KnowsQueries, Scene, is_new, is_queried}
use Rattle.cv_steps.specs.Steps.{Cost, Leads, Zero}
use Rattle.cv_steps.proofs.Rows.{leads_same, unless_at_leads, unless_leads}
use Rattle.cv_steps_laws.proofs.Keeping.{unqueried}
use Rattle.cv_steps_laws.proofs.Unnamed.{asked_untested}
use Rattle.cv_edit_names.specs.Cells.{first_mixed}
use Rattle.cv_rule_array_names.specs.Owners.{exchanged_cell, exchanged_tape, first_name, owner_in}
use Rattle.cv_rule_array_names.specs.Row.{array_names_row}
use Rattle.cv_edit_names.specs.Naming.{Naming, naming_of}
use Rattle.cv_rule_array_names.specs.Sites.{AreNoConstants, are_apart, has_names}
use Rattle.cv_edit_names.specs.Splitting.{split_game}
use Rattle.cv_rule_array_names.proofs.Finds.{IsSplitting}
use Rattle.cv_rule_array_names.proofs.Owners.{holds_exchanged}
use Rattle.cv_rule_array_names.proofs.Places.{site_named, site_variable, unnamed_sites}
use Rattle.cv_rule_array_names.proofs.Runs.{IsOther}
use Rattle.cv_rule_array_names.proofs.Stores.{Free, is_name}
use Rattle.cv_rule_array_names.proofs.Values.{Unread}

all_new : (s : Scene) (ys : List ℕ) → list_all (is_new s) ys ≡ true → (y : ℕ) → is_name ys y ≡ true → is_new s y ≡ true
all_new s [] e y f = absurd (both_ways false refl f)
all_new s (z ∷ ys) e y f = go (z == y) refl (and_parts (is_new s z) _ e) (all_new s ys) f
  where
    go : (b : Bool) → (z == y) ≡ b → (is_new s z ≡ true) × (list_all (is_new s) ys ≡ true) → (list_all (is_new s) ys ≡ true → (y : ℕ) → is_name ys y ≡ true → is_new s y ≡ true) → (b || is_name ys y) ≡ true → is_new s y ≡ true
    go true i p ih k = ap (is_new s) (sym (eqb-true z y i)) ∙ p.0
    go false i p ih k = ih p.1 y k

-- a row that leads to a game: no condition of it fails
pub record IsLed (s : Scene) (x : ℕ) (ys : List ℕ) (next : Tree) : Type 0 where
  pub one : ℕ
  pub more : List ℕ
  pub names : ys ≡ one ∷ more
  pub site : ℕ × Context
  pub sites : List (ℕ × Context)
  pub there : sites_of s.game x ≡ site ∷ sites
  pub many : length (sites_of s.game x) ≡ length ys
  pub new : (y : ℕ) → is_name ys y ≡ true → is_new s y ≡ true
  pub apart : are_apart ys ≡ true
  pub unasked : is_queried s x ≡ false
  pub unmixed : first_mixed x 0 s.game ≡ None
  pub leads : split_game x ys s.game ≡ next

pub row_leads : (s : Scene) (x : ℕ) (ys : List ℕ) (next : Tree) (cost : Cost) → array_names_row s x ys ≡ Leads next cost → IsLed s x ys next
row_leads s x ys next cost e =
    let r = unless_leads (has_names s x ys) 1 0 _ next cost e in
    let q = unless_leads (not (is_queried s x)) 2 0 _ next cost r.1 in
    let o = unless_at_leads 3 (first_mixed x 0 s.game) _ next cost q.1 in
    go ys (sites_of s.game x) refl (and_parts (nat_lt 1 (length ys)) _ r.0) refl (not-true _ q.0) o.0 (leads_same (split_game x ys s.game) next Zero cost o.1)
  where
    go : (zs : List ℕ) (ds : List (ℕ × Context)) → sites_of s.game x ≡ ds → (nat_lt 1 (length zs) ≡ true) × ((length (sites_of s.game x) == length zs) && (list_all (is_new s) zs && are_apart zs) ≡ true) → zs ≡ ys → is_queried s x ≡ false → first_mixed x 0 s.game ≡ None → split_game x ys s.game ≡ next → IsLed s x ys next
    go [] ds f n z u v w = absurd (both_ways false refl n.0)
    go (y ∷ zs) [] f n z u v w = absurd (let k : 0 ≡ suc (length zs) = ap length (sym f) ∙ eqb-true (length (sites_of s.game x)) (suc (length zs)) (and_parts (length (sites_of s.game x) == suc (length zs)) _ n.1).0 in (cc))
    go (y ∷ zs) (d ∷ ds) f n z u v w =
        let a = and_parts (length (sites_of s.game x) == suc (length zs)) _ n.1 in
        let b = and_parts (list_all (is_new s) (y ∷ zs)) _ a.1 in
        record {
          one = y;
          more = zs;
          names = sym z;
          site = d;
          sites = ds;
          there = f;
          many = eqb-true (length (sites_of s.game x)) (suc (length zs)) a.0 ∙ ap length z;
          new = λ c h. all_new s (y ∷ zs) b.0 c (ap (λ l. is_name l c) z ∙ h);
          apart = ap are_apart (sym z) ∙ b.1;
          unasked = u;
          unmixed = v;
          leads = w;
        }

module _ (s : Scene) (x : ℕ) (ys : List ℕ) (next : Tree) (l : IsLed s x ys next) where
  pub free : Free ys s.game
  free y h = not-true _ (and_parts (not (s.known y)) _ (l.new y h)).1

  pub splitting : IsSplitting s.game (naming_of s.game x ys)
  splitting = record {
    free = free;
    unmixed = l.unmixed;
    apart = l.apart;
    one = l.one;
    more = l.more;
    names = l.names;
    sites = λ q σ Γ h a b st e. site_named s.game x ys l.many q σ Γ h a b st e;
  }

  pub known_variable : IsWellFormed s.declarations s.game → (i : Interpretation) → is_variable s.game x ≡ true
  known_variable well i = site_variable (setting_of s.declarations i) (is_variable s.game) s.game (well_game s.declarations (setting_of s.declarations i) s.game refl (game_context s.declarations s.game well)) x l.site l.sites l.there

  -- the variable has a definition, so it is none of the new names
  pub old_name : is_name ys x ≡ false
  old_name = go (is_name ys x) refl
    where
      go : (b : Bool) → is_name ys x ≡ b → is_name ys x ≡ false
      go true h = absurd (unnamed_sites s.game x (free x h) l.site l.sites l.there)
      go false h = h

  module _ (knows : KnowsQueries s) where
    other_name : (z : ℕ) → ((y : ℕ) → is_queried s y ≡ false → (z == y) ≡ false) → is_name ys z ≡ false
    other_name z untested = go (is_name ys z) refl
      where
        go : (b : Bool) → is_name ys z ≡ b → is_name ys z ≡ false
        go true h = absurd (both_ways (z == z) (untested z (unqueried s z knows (not-true _ (and_parts (not (s.known z)) _ (l.new z h)).0))) (eq-eqb z z refl))
        go false h = h

    pub asks_others : (e : Experiment) → IsAsked (queries_in s.declarations) e → IsOther x ys (mode_of e)
    asks_others (Breaks q) asked = tt
    asks_others (Guesses Events) asked = tt
    asks_others (Guesses (Real one z)) asked = (asked_untested s x (Guesses (Real one z)) asked l.unasked, other_name z (λ y f. asked_untested s y (Guesses (Real one z)) asked f))
    asks_others (Guesses (Random one z)) asked = (asked_untested s x (Guesses (Random one z)) asked l.unasked, other_name z (λ y f. asked_untested s y (Guesses (Random one z)) asked f))

pub alike : (s : Scene) (x : ℕ) (ys : List ℕ) (next : Tree) (cost : Cost) → IsWellFormed s.declarations s.game → KnowsQueries s → AreNoConstants s ys → Unread x next → array_names_row s x ys ≡ Leads next cost
    → (i : Interpretation) (e : Experiment) (a : Adversary) (t : Tape) → IsAsked (queries_in s.declarations) e → holds_on (setting_of s.declarations i) e a s.game t ≡ holds_on (setting_of s.declarations i) e a next (exchanged_tape (setting_of s.declarations i) (mode_of e) a s.game x ys t)
unfolding visits_of_run row_leads splitting
alike s x ys next cost well knows constants unread row i e a t asked =
    let l : IsLed s x ys next = row_leads s x ys next cost row in
    let g : Setting = setting_of s.declarations i in
    let n : Naming = naming_of s.game x ys in
    let start_of : List Visit = visits_of_run g (mode_of e) a s.game t in
    subst (λ z. holds_on g e a s.game t ≡ holds_on g e a z (exchanged_tape g (mode_of e) a s.game x ys t)) l.leads
    (subst (λ z. holds_on g e a s.game t ≡ holds_on g e a (split_game x ys s.game) (λ c. t (exchanged_cell x (λ w. owner_in n z start_of w) c))) (sym (ap first_name l.names))
    (holds_exchanged s.declarations g s.game refl well n (splitting s x ys next l) (known_variable s x ys next l well i) constants (old_name s x ys next l) e a (asks_others s x ys next l knows e asked)
    (subst (Unread x) (sym l.leads) unread) t))
