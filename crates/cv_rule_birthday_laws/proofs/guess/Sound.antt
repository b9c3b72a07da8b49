-- What the step keeps.
use Rattle.std.proofs.Common.{ℕ, ◌<◌, Bool, true, false, cond, List, [], ◌∷◌, map, refl, sym, subst, arith, mul-pos}
use Rattle.cv_syntax_trees.specs.declared.head.Head.{Head}
use Rattle.cv_syntax_trees.specs.declared.head.Head.TheVariants.{Branch, In, No}
use Rattle.cv_syntax_trees.specs.Declarations.{Declaration}
use Rattle.cv_syntax_trees.specs.Tree.{Tree, Empty, Node, first_place, second, second_place}
use Rattle.cv_scene.specs.lines.Truths.{no}
use Rattle.cv_meaning.specs.Interpretation.{Interpretation, Setting, setting_of}
use Rattle.cv_meaning.specs.Runs.{Mode}
use Rattle.cv_meaning_chances.specs.Fractions.{HasTapes}
use Rattle.cv_meaning_chances.specs.values.Values.{HasValuesIn}
use Rattle.cv_syntax_trees.specs.declared.sites.sort.Sort.TheVariants.{BelowParameter, OfType}
use Rattle.cv_scope_rules.specs.typing.Signature.{declaration_of}
use Rattle.cv_typing_runs.specs.Games.{AreDeclared, HasDeclaredSorts, NamesDeclared}
use Rattle.cv_scope_rules.specs.Phrases.{Inputs, Phrase}
use Rattle.cv_derive_laws.specs.stores.Costs.{bound_of}
use Rattle.cv_derive_laws.specs.stores.Steps.{IsSound}
use Rattle.cv_steps.specs.Rewriting.{parts_of}
use Rattle.cv_steps_laws.proofs.Indices.{Lacks, bound_before, lacking_empty, lacking_node, lacking_parts}
use Rattle.cv_steps_laws.proofs.Keeping.{accepted, formed}
use Rattle.cv_steps_laws.proofs.Values.{type_value}
use Rattle.cv_rule_birthday.specs.Comparing.{is_one_of}
use Rattle.cv_rule_birthday.specs.guess.Guessing.{Places, falsified, is_guess}
use Rattle.cv_rule_birthday.specs.guess.Row.{guess_step, one_for_guesses, parameters_of}
use Rattle.cv_rule_birthday_laws.proofs.guess.Falsified.{kept_bare}
use Rattle.cv_rule_birthday_laws.proofs.guess.Keeping.{guesses_cost, large_type}
use Rattle.cv_rule_birthday_laws.proofs.guess.Leads.{guess_leads}
use Rattle.cv_rule_birthday_laws.proofs.guess.Unread.{bare_binders, bare_pattern}

module _ (x : ℕ) (ps : Places) where
  abbrev False : Phrase → ℕ → Tree → Tree
  False = falsified x ps

  -- sorts

  names_kept : (ds : List Declaration) (σ : Phrase) (h : Head) (a : Tree) (p : ℕ) → NamesDeclared ds h a → NamesDeclared ds h (False (parts_of σ h).0 p a)
  names_kept ds σ (In c) a p d = subst (λ t. AreDeclared ds OfType (second t)) (sym (kept_bare x ps (parts_of σ (In c)).0 a p (bare_pattern σ c))) d
  names_kept ds σ Branch a p d = subst (AreDeclared ds BelowParameter) (sym (kept_bare x ps (parts_of σ Branch).0 a p (bare_binders σ))) d
  names_kept ds σ h a p d = d

  sorts_kept : (ds : List Declaration) (σ : Phrase) (t : Tree) (p : ℕ) → HasDeclaredSorts ds t → HasDeclaredSorts ds (False σ p t)
  unfolding falsified HasDeclaredSorts
  sorts_kept ds σ Empty p d = tt
  sorts_kept ds σ (Node h a b) p d = go (is_guess x ps σ p h a b) (names_kept ds σ h a (first_place p h) d.0) (sorts_kept ds (parts_of σ h).0 a (first_place p h) d.1) (sorts_kept ds (parts_of σ h).1 b (second_place p h a) d.2)
    where
      go : (c : Bool) → NamesDeclared ds h (False (parts_of σ h).0 (first_place p h) a) → HasDeclaredSorts ds (False (parts_of σ h).0 (first_place p h) a) → HasDeclaredSorts ds (False (parts_of σ h).1 (second_place p h a) b)
          → HasDeclaredSorts ds (cond c no (Node h (False (parts_of σ h).0 (first_place p h) a) (False (parts_of σ h).1 (second_place p h a) b)))
      go true n i j = (tt, tt, tt)
      go false n i j = (n, i, j)

  -- values

  values_kept : (g : Setting) (m : Mode) (σ : Phrase) (t : Tree) (p : ℕ) → HasValuesIn g m t → HasValuesIn g m (False σ p t)
  unfolding falsified HasValuesIn
  values_kept g m σ Empty p d = tt
  values_kept g m σ (Node h a b) p d = go (is_guess x ps σ p h a b) (values_kept g m (parts_of σ h).0 a (first_place p h) d.1) (values_kept g m (parts_of σ h).1 b (second_place p h a) d.2)
    where
      go : (c : Bool) → HasValuesIn g m (False (parts_of σ h).0 (first_place p h) a) → HasValuesIn g m (False (parts_of σ h).1 (second_place p h a) b)
          → HasValuesIn g m (cond c no (Node h (False (parts_of σ h).0 (first_place p h) a) (False (parts_of σ h).1 (second_place p h a) b)))
      go true i j = (tt, tt, tt)
      go false i j = (d.0, i, j)

  -- indices

  indices_kept : (i : ℕ) (σ : Phrase) (t : Tree) (p : ℕ) → Lacks i t → Lacks i (False σ p t)
  unfolding falsified
  indices_kept i σ Empty p d = d
  indices_kept i σ (Node h a b) p d =
      let r = lacking_parts i h a b d in
      go (is_guess x ps σ p h a b) (indices_kept i (parts_of σ h).0 a (first_place p h) r.1) (indices_kept i (parts_of σ h).1 b (second_place p h a) r.2)
    where
      go : (c : Bool) → Lacks i (False (parts_of σ h).0 (first_place p h) a) → Lacks i (False (parts_of σ h).1 (second_place p h a) b)
          → Lacks i (cond c no (Node h (False (parts_of σ h).0 (first_place p h) a) (False (parts_of σ h).1 (second_place p h a) b)))
      go true k l = lacking_node i No Empty Empty refl (lacking_empty i) (lacking_empty i)
      go false k l = lacking_node i h (False (parts_of σ h).0 (first_place p h) a) (False (parts_of σ h).1 (second_place p h a) b) (lacking_parts i h a b d).0 k l

-- the cost has a value
has_tapes : (i : Interpretation) (ds : List Declaration) (T : ℕ) → 0 < i.type_size T → (pss : List (List ℕ)) → HasTapes (bound_of i (one_for_guesses ds pss T))
has_tapes i ds T l [] = omega arith
has_tapes i ds T l (ns ∷ pss) = mul-pos l (has_tapes i ds T l pss)

pub guess_sound : (x : ℕ) (ps : List ℕ) → IsSound (guess_step x ps)
guess_sound x ps = record {
  keeps = λ s next cost ready holds unreached knows e.
      let k = accepted s (guess_step x ps) next cost e in
      guesses_cost s x ps next cost ready.formed (formed s.declarations next k.game) ready.typed k.row;
  taped = λ s next cost e i sat.
      let r = guess_leads next cost s x ps (accepted s (guess_step x ps) next cost e).row in
      subst (λ c. HasTapes (bound_of i c)) r.priced (has_tapes i s.declarations r.type (type_value s i sat r.type (large_type (declaration_of s.declarations r.type) r.large)) (map (parameters_of s.game) ps));
  declared = λ s next cost w d e.
      let r = guess_leads next cost s x ps (accepted s (guess_step x ps) next cost e).row in
      subst (HasDeclaredSorts s.declarations) r.leads (sorts_kept x (is_one_of ps) s.declarations Inputs s.game 0 d);
  valued = λ s next cost w i sat m new d e.
      let r = guess_leads next cost s x ps (accepted s (guess_step x ps) next cost e).row in
      subst (HasValuesIn (setting_of s.declarations i) m) r.leads (values_kept x (is_one_of ps) (setting_of s.declarations i) m Inputs s.game 0 d);
  bound = λ s next cost e i h.
      let r = guess_leads next cost s x ps (accepted s (guess_step x ps) next cost e).row in
      bound_before i s.game next (λ l. subst (Lacks i) r.leads (indices_kept x (is_one_of ps) i Inputs s.game 0 l)) h;
}
