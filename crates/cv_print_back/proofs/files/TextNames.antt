-- In a file whose names obey their rules, the uses in the process do.
use Rattle.std.proofs.Common.{◌≡◌, ℕ, Bool, true, false, ◌&&◌, ◌||◌, ◌==◌, if◌then◌else◌, List, [], ◌∷◌, ◌++◌, append_assoc, Option, Some, None, inl, inr, refl, ap, sym, ◌∙◌}
use Rattle.std.proofs.lemmas.Bool.{and_from, and_parts, not_from_false, or_cases, or_left, or_right}
use Rattle.std.proofs.lemmas.List.Folds.{list_any-append}
use Rattle.cv_parse_notation.specs.Spells.{Use}
use Rattle.cv_parse_grammar.specs.declared.role.Asked.TheVariants.{AFunction}
use Rattle.cv_parse_grammar.specs.declared.role.Region.{Region}
use Rattle.cv_parse_grammar.specs.declared.role.Region.TheVariants.{InProcess}
use Rattle.cv_parse_grammar.specs.declared.role.Role.{Role}
use Rattle.cv_parse_grammar.specs.declared.role.Role.TheVariants.{Asks, BindsVariable, BindsIndex, AsksIndex, Mentions, MentionsCell, AsCall, AsArray, AsBare, Enters, Leaves}
use Rattle.cv_parse_grammar.specs.Identities.{is_among}
use Rattle.cv_parse_grammar.specs.Names.{AreNamed, Uses, as_bare, as_call, binds_index, binds_variable, cell_known_in, declares, declares_as, is_function, is_used, is_variable, known_in, obeys, part_after, part_from}
use Rattle.cv_parse_grammar.proofs.yields.Naming.{bound_undeclared}
use Rattle.cv_print_back.proofs.files.Passing.{AtEnd, Obey, ends, fits, with_index}

-- what is used before, or behind, is used

pub used_left : (p : Role → Bool) (x : ℕ) (us vs : Uses) → is_used p x us ≡ true → is_used p x (us ++ vs) ≡ true
used_left p x us vs e = list_any-append (λ u. p u.role && (u.name == x)) us vs ∙ or_left (is_used p x us) (is_used p x vs) e

pub used_right : (p : Role → Bool) (x : ℕ) (us vs : Uses) → is_used p x vs ≡ true → is_used p x (us ++ vs) ≡ true
used_right p x us vs e = list_any-append (λ u. p u.role && (u.name == x)) us vs ∙ or_right (is_used p x us) (is_used p x vs) e

-- the part of the file that is open

pub part_append : (p : Option Region) (us vs : Uses) → part_from p (us ++ vs) ≡ part_from (part_from p us) vs
unfolding part_from
part_append p [] vs = refl
part_append p (u ∷ us) vs = part_append (part_after p u.role) us vs

pub part_of_one : (p : Option Region) (u : Use Role) → part_from p (u ∷ []) ≡ part_after p u.role
unfolding part_from
part_of_one p u = refl

stays_in : (r : Role) → ends r ≡ false → part_after (Some InProcess) r ≡ Some InProcess
stays_in (Enters q) e = absurd (cc)
stays_in Leaves e = absurd (cc)
stays_in r e = refl

pub part_stays : (before : Uses) (u : Use Role) → ends u.role ≡ false → part_from None before ≡ Some InProcess → part_from None (before ++ u ∷ []) ≡ Some InProcess
part_stays before u e p = part_append None before (u ∷ []) ∙ (part_of_one (part_from None before) u ∙ (ap (λ q. part_after q u.role) p ∙ stays_in u.role e))

-- a name in a term is known still where more is declared and bound
pub known_still : (c b f v i g w j : Bool) → (f ≡ true → g ≡ true) → (v ≡ true → w ≡ true) → (i ≡ true → j ≡ true) → (if c then f else v || (b && (f || i))) ≡ true → (if c then g else w || (b && (g || j))) ≡ true
known_still true b f v i g w j k l m e = k e
known_still false b f v i g w j k l m e = elim (or_cases v (b && (f || i)) e) [
  | inl x ↦ or_left w (b && (g || j)) (l x)
  | inr x ↦
      let p = and_parts b (f || i) x in
      or_right w (b && (g || j)) (and_from b (g || j) p.0 (elim (or_cases f i p.1) [ inl y ↦ or_left g j (k y) | inr y ↦ or_right g j (m y) ]))
]

module _ (all : Uses) (named : AreNamed all) where
  abbrev use_at : Role → ℕ → ℕ → Use Role
  use_at r x l = record { role = r; name = x; left = l }

  -- a use obeys by what all uses bind and declare
  fit : (r : Role) (x l : ℕ) (before us : Uses) → all ≡ before ++ use_at r x l ∷ us → part_from None before ≡ Some InProcess → (seen : List ℕ) → ((y : ℕ) → is_used binds_index y before ≡ true → is_among seen y ≡ true) → obeys before r x us ≡ true → fits all true seen r x us ≡ true
  fit (Asks a) x l before us s p seen i o = ap (λ z. is_used (declares_as a) x z) s ∙ used_left (declares_as a) x before (use_at (Asks a) x l ∷ us) o
  fit BindsVariable x l before us s p seen i o = not_from_false (is_used declares x all) (bound_undeclared all named before (use_at BindsVariable x l) us s refl)
  fit BindsIndex x l before us s p seen i o = not_from_false (is_used declares x all) (bound_undeclared all named before (use_at BindsIndex x l) us s refl)
  fit AsksIndex x l before us s p seen i o = i x o
  fit Mentions x l before us s p seen i o =
      known_still (as_call us) (as_bare us) (is_function before x) (is_variable before us x) (is_used binds_index x before) (is_used (declares_as AFunction) x all) (is_used binds_variable x all) (is_among seen x)
      (λ e. ap (λ z. is_used (declares_as AFunction) x z) s ∙ used_left (declares_as AFunction) x before (use_at Mentions x l ∷ us) e)
      (λ e. ap (λ z. is_used binds_variable x z) s ∙ (list_any-append (λ u. binds_variable u.role && (u.name == x)) before (use_at Mentions x l ∷ us) ∙ e))
      (i x)
      (sym (ap (λ q. known_in q before us x) p) ∙ o)
  fit MentionsCell x l before us s p seen i o = ap (λ z. is_used binds_variable x z) s ∙ (list_any-append (λ u. binds_variable u.role && (u.name == x)) before (use_at MentionsCell x l ∷ us) ∙ (sym (ap (λ q. cell_known_in q before us x) p) ∙ o))
  fit AsCall x l before us s p seen i o = refl
  fit AsArray x l before us s p seen i o = refl
  fit AsBare x l before us s p seen i o = refl
  fit r x l before us s p seen i o = refl

  now_seen : (r : Role) (x y : ℕ) (seen : List ℕ) → is_among seen y ≡ true → is_among (with_index seen r x) y ≡ true
  now_seen BindsIndex x y seen e = or_right (x == y) (is_among seen y) e
  now_seen r x y seen e = e

  just_seen : (r : Role) (x y : ℕ) (seen : List ℕ) → ((binds_index r && (x == y)) || false) ≡ true → is_among (with_index seen r x) y ≡ true
  just_seen BindsIndex x y seen e = or_left (x == y) (is_among seen y) (elim (or_cases (x == y) false e) [ inl k ↦ k | inr k ↦ absurd (cc) ])
  just_seen r x y seen e = absurd (cc)

  seen_behind : (u : Use Role) (before : Uses) (seen : List ℕ) → ((y : ℕ) → is_used binds_index y before ≡ true → is_among seen y ≡ true) → (y : ℕ) → is_used binds_index y (before ++ u ∷ []) ≡ true → is_among (with_index seen u.role u.name) y ≡ true
  seen_behind u before seen i y e = elim (or_cases (is_used binds_index y before) (is_used binds_index y (u ∷ [])) (sym (list_any-append (λ v. binds_index v.role && (v.name == y)) before (u ∷ [])) ∙ e)) [
    | inl k ↦ now_seen u.role u.name y seen (i y k)
    | inr k ↦ just_seen u.role u.name y seen k
  ]

  at_end : (b c : Bool) (P : Type 0) → b ≡ c → (c ≡ false → P) → AtEnd b (Unit {0}) P
  at_end true c P e f = tt
  at_end false c P e f = f (sym e)

  pub obeys_in_text : (before us : Uses) → all ≡ before ++ us → part_from None before ≡ Some InProcess → (seen : List ℕ) → ((y : ℕ) → is_used binds_index y before ≡ true → is_among seen y ≡ true) → Obey all true seen us
  obeys_in_text before [] s p seen i = tt
  obeys_in_text before (u ∷ us) s p seen i =
      at_end (ends u.role) (ends u.role) ((fits all true seen u.role u.name us ≡ true) × Obey all true (with_index seen u.role u.name) us) refl (λ e. (
        fit u.role u.name u.left before us s p seen i (named before u us s),
        obeys_in_text (before ++ u ∷ []) us (s ∙ sym (append_assoc before (u ∷ []) us)) (part_stays before u e p) (with_index seen u.role u.name) (seen_behind u before seen i),
      ))
