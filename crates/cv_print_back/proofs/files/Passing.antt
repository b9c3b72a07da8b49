-- Uses of names in a process that obey their rules, and such with written indices in their place.
use Rattle.std.proofs.Common.{◌≡◌, ℕ, Bool, true, false, ◌&&◌, ◌||◌, ◌==◌, eq-eqb, not, if◌then◌else◌, List, [], ◌∷◌, ◌++◌, refl, ap, sym, subst}
use Rattle.std.proofs.lemmas.Bool.{or_left, or_right}
use Rattle.std.specs.List.{AllByRecursion}
use Rattle.cv_parse_notation.specs.Spells.{Use}
use Rattle.cv_parse_grammar.specs.declared.role.Asked.{Asked}
use Rattle.cv_parse_grammar.specs.declared.role.Asked.TheVariants.{AFunction}
use Rattle.cv_parse_grammar.specs.declared.role.Role.{Role}
use Rattle.cv_parse_grammar.specs.declared.role.Role.TheVariants.{Asks, BindsVariable, BindsIndex, AsksIndex, Mentions, AsCall, AsArray, AsBare, MentionsCell, Enters, Leaves}
use Rattle.cv_parse_grammar.specs.Identities.{is_among}
use Rattle.cv_parse_grammar.specs.Names.{Uses, as_bare, as_call, binds_variable, declares, declares_as, is_used}
use Rattle.cv_print_back.proofs.files.Saying.{Word}

-- a use, wherever it stands
abbrev pub use_of : Role → ℕ → Use Role
use_of r x = record { role = r; name = x; left = 0 }

-- the variables among uses, in order
abbrev pub variable_of : Role → ℕ → List ℕ → List ℕ
variable_of BindsVariable x l = x ∷ l
variable_of r x l = l

abbrev pub variables_in : Uses → List ℕ
variables_in [] = []
variables_in (u ∷ us) = variable_of u.role u.name (variables_in us)

-- the process ends here, or another part begins
abbrev pub ends : Role → Bool
ends (Enters q) = true
ends Leaves = true
ends r = false

abbrev pub with_index : List ℕ → Role → ℕ → List ℕ
with_index seen BindsIndex x = x ∷ seen
with_index seen r x = seen

abbrev pub AtEnd : Bool → Type 0 → Type 0 → Type 0
AtEnd true P Q = P
AtEnd false P Q = Q

abbrev pub Stops : Bool → Uses → Type 0
Stops true us = Unit {0}
Stops false us = us ≡ []

-- these indices have been bound
abbrev pub AreSeen : List ℕ → List ℕ → Type 0
AreSeen seen now = AllByRecursion (λ i. is_among seen i ≡ true) now

module _ (all : Uses) where
  -- In the process a use obeys its rule, behind such indices, by what all uses bind and declare. The flag says whether
  -- a use that no printed process has passes too.
  abbrev pub fits : Bool → List ℕ → Role → ℕ → Uses → Bool
  fits lax seen (Asks a) x vs = is_used (declares_as a) x all
  fits lax seen BindsVariable x vs = not (is_used declares x all)
  fits lax seen BindsIndex x vs = not (is_used declares x all)
  fits lax seen AsksIndex x vs = is_among seen x
  fits lax seen Mentions x vs = if as_call vs then is_used (declares_as AFunction) x all else is_used binds_variable x all || (as_bare vs && (is_used (declares_as AFunction) x all || is_among seen x))
  fits lax seen MentionsCell x vs = is_used binds_variable x all
  fits lax seen AsCall x vs = true
  fits lax seen AsArray x vs = true
  fits lax seen AsBare x vs = true
  fits lax seen r x vs = lax

  abbrev pub Obey : Bool → List ℕ → Uses → Type 0
  Obey lax seen [] = Unit {0}
  Obey lax seen (u ∷ us) = AtEnd (ends u.role) (Stops lax us) ((fits lax seen u.role u.name us ≡ true) × Obey lax (with_index seen u.role u.name) us)

  -- Where the first uses obey behind the indices that are bound now, so do the others, and they bind the same variables.
  pub record Passes (now : List ℕ) (us vs : Uses) : Type 0 where
    pub variables : variables_in us ≡ variables_in vs
    pub obey : (seen : List ℕ) → AreSeen seen now → Obey true seen us → Obey false seen vs

  -- uses that stay

  pub asks : {a : Asked} {x : ℕ} {us ws vs : Uses} {now : List ℕ} → Word (Asks a) x us ws → Passes now ws vs → Passes now us (use_of (Asks a) x ∷ vs)
  asks {a = a} {x = x} {vs = vs} {now = now} w p = subst (λ z. Passes now z (use_of (Asks a) x ∷ vs)) (sym w.1) (record { variables = p.variables; obey = λ seen n k. (k.0, p.obey seen n k.1) })

  pub asks_index : {x : ℕ} {us ws vs : Uses} {now : List ℕ} → Word AsksIndex x us ws → Passes now ws vs → Passes now us (use_of AsksIndex x ∷ vs)
  asks_index {x = x} {vs = vs} {now = now} w p = subst (λ z. Passes now z (use_of AsksIndex x ∷ vs)) (sym w.1) (record { variables = p.variables; obey = λ seen n k. (k.0, p.obey seen n k.1) })

  pub binds_it : {x : ℕ} {us ws vs : Uses} {now : List ℕ} → Word BindsVariable x us ws → Passes now ws vs → Passes now us (use_of BindsVariable x ∷ vs)
  binds_it {x = x} {vs = vs} {now = now} w p = subst (λ z. Passes now z (use_of BindsVariable x ∷ vs)) (sym w.1) (record { variables = ap (λ l. x ∷ l) p.variables; obey = λ seen n k. (k.0, p.obey seen n k.1) })

  -- a use that is asked for, but not printed
  pub unasked : {a : Asked} {x : ℕ} {us ws vs : Uses} {now : List ℕ} → Word (Asks a) x us ws → Passes now ws vs → Passes now us vs
  unasked {vs = vs} {now = now} w p = subst (λ z. Passes now z vs) (sym w.1) (record { variables = p.variables; obey = λ seen n k. p.obey seen n k.1 })

  -- an index is bound in front of what is below it

  seen_more : (i : ℕ) (seen now : List ℕ) → AreSeen seen now → AreSeen (i ∷ seen) now
  seen_more i seen [] n = tt
  seen_more i seen (j ∷ now) n = (or_right (i == j) (is_among seen j) n.0, seen_more i seen now n.1)

  first_seen : (i : ℕ) (seen : List ℕ) → is_among (i ∷ seen) i ≡ true
  first_seen i seen = or_left (i == i) (is_among seen i) (eq-eqb i i refl)

  seen_last : (i : ℕ) (seen now : List ℕ) → AreSeen (i ∷ seen) now → AreSeen (i ∷ seen) (now ++ i ∷ [])
  seen_last i seen [] n = (first_seen i seen, tt)
  seen_last i seen (j ∷ now) n = (n.0, seen_last i seen now n.1)

  pub binds_index_then : {i : ℕ} {us ws vs : Uses} {now : List ℕ} → Word BindsIndex i us ws → Passes (now ++ i ∷ []) ws vs → Passes now us (use_of BindsIndex i ∷ vs)
  binds_index_then {i = i} {vs = vs} {now = now} w p = subst (λ z. Passes now z (use_of BindsIndex i ∷ vs)) (sym w.1) (record {
    variables = p.variables;
    obey = λ seen n k. (k.0, p.obey (i ∷ seen) (seen_last i seen now (seen_more i seen now n)) k.1);
  })

  seen_front : (seen now more : List ℕ) → AreSeen seen (now ++ more) → AreSeen seen now
  seen_front seen [] more n = tt
  seen_front seen (j ∷ now) more n = (n.0, seen_front seen now more n.1)

  -- more indices may be bound
  pub under_more : {us vs : Uses} {now : List ℕ} (more : List ℕ) → Passes now us vs → Passes (now ++ more) us vs
  under_more {now = now} more p = record { variables = p.variables; obey = λ seen n k. p.obey seen (seen_front seen now more n) k }
