-- What a table says of a name, after one more use.
use Rattle.std.proofs.Common.{◌≡◌, ℕ, ◌+◌, ◌<◌, ◌≤◌, ◌==◌, Bool, true, false, ◌&&◌, ◌||◌, is_some, [], ◌∷◌, ◌++◌, Option, Some, None, length, refl, ap, sym, ◌∙◌, subst, arith}
use Rattle.std.proofs.Common.{eq-eqb}
use Rattle.std.proofs.Math.Bool.{and-false, and-true, or-false, or-true}
use Rattle.std.proofs.lemmas.Bool.{le-leb, lt-leb}
use Rattle.std.proofs.lemmas.List.{length-append}
use Rattle.std.proofs.lemmas.List.Folds.{list_any-append}
use Rattle.cv_parse_notation.specs.Spells.{Use}
use Rattle.cv_parse_grammar.specs.declared.role.Asked.{Asked}
use Rattle.cv_parse_grammar.specs.declared.role.Region.{Region}
use Rattle.cv_parse_grammar.specs.declared.role.Role.{Role}
use Rattle.cv_parse_grammar.specs.declared.role.Role.TheVariants.{Declares, BindsLocal, BindsBound, BindsVariable, BindsIndex, Enters}
use Rattle.cv_parse_grammar.specs.Names.{Uses, binds, binds_bound, binds_index, binds_variable, declares, declares_as, is_declared, is_used, same_asked, own_from, part_after, part_from, since}
use Rattle.cv_parse_names.specs.declared.table.Entry.{Entry}
use Rattle.cv_parse_names.specs.declared.table.Scope.{Scope}
use Rattle.cv_parse_names.specs.Table.{is_since, noted, part_behind, was_declared}

-- one more use
pub is_used_push : (p : Role → Bool) (x : ℕ) (us : Uses) (u : Use Role) → is_used p x (us ++ u ∷ []) ≡ (is_used p x us || (p u.role && (u.name == x)))
is_used_push p x us u = list_any-append (λ v. p v.role && (v.name == x)) us (u ∷ []) ∙ ap (λ b. is_used p x us || b) (or-false (p u.role && (u.name == x)))

-- one more use, of this name or of another
push_same : (p : Role → Bool) (x : ℕ) (us : Uses) (u : Use Role) → (u.name == x) ≡ true → is_used p x (us ++ u ∷ []) ≡ (is_used p x us || p u.role)
push_same p x us u e = is_used_push p x us u ∙ ap (λ b. is_used p x us || b) (ap (λ b. p u.role && b) e ∙ and-true (p u.role))

push_other : (p : Role → Bool) (x : ℕ) (us : Uses) (u : Use Role) → (u.name == x) ≡ false → is_used p x (us ++ u ∷ []) ≡ is_used p x us
push_other p x us u e = is_used_push p x us u ∙ (ap (λ b. is_used p x us || b) (ap (λ b. p u.role && b) e ∙ and-false (p u.role)) ∙ or-false (is_used p x us))

-- the names of the part that is open, and the part
own_from_push : (seen us : Uses) (u : Use Role) → own_from seen (us ++ u ∷ []) ≡ since (own_from seen us) u
unfolding own_from
own_from_push seen [] u = refl
own_from_push seen (v ∷ us) u = own_from_push (since seen v) us u

pub part_from_push : (q : Option Region) (us : Uses) (u : Use Role) → part_from q (us ++ u ∷ []) ≡ part_after (part_from q us) u.role
unfolding part_from
part_from_push q [] u = refl
part_from_push q (v ∷ us) u = part_from_push (part_after q v.role) us u

-- the entry of a name says what its uses before do with it, and what all uses say of it wherever they stand
pub record IsKnown (all before : Uses) (x start : ℕ) (e : Entry) : Type 0 where
  pub declared_somewhere : e.declared_somewhere ≡ is_used declares x all
  pub variable_somewhere : e.variable_somewhere ≡ is_used binds_variable x all
  pub declared : is_some e.declared ≡ is_used declares x before
  pub asked : (a : Asked) → was_declared a e.declared ≡ is_used (declares_as a) x before
  pub bound : is_some e.bound_at ≡ is_used binds x before
  pub own : is_since start e.bound_at ≡ is_used binds x (own_from [] before)
  pub early : (at : ℕ) → e.bound_at ≡ Some at → at < length before
  pub as_bound : e.as_bound ≡ is_used binds_bound x before
  pub as_index : e.as_index ≡ is_used binds_index x before

-- what a use puts down, column by column

undeclared : (a : Asked) (o : Option Asked) → is_some o ≡ false → was_declared a o ≡ false
undeclared a None e = refl
undeclared a (Some b) e = absurd (cc)

note_declared : (e : Entry) (r : Role) (at : ℕ) → is_some (noted e r at).declared ≡ (is_some e.declared || declares r)
note_declared e (Declares a) at = sym (or-true (is_some e.declared))
note_declared e r at = sym (or-false (is_some e.declared))

note_asked : (a : Asked) (e : Entry) (r : Role) (at : ℕ) → (declares r ≡ true → is_some e.declared ≡ false) → was_declared a (noted e r at).declared ≡ (was_declared a e.declared || declares_as a r)
note_asked a e (Declares b) at h = ap (λ c. c || same_asked a b) (sym (undeclared a e.declared (h refl)))
note_asked a e r at h = sym (or-false (was_declared a e.declared))

note_bound : (e : Entry) (r : Role) (at : ℕ) → is_some (noted e r at).bound_at ≡ (is_some e.bound_at || binds r)
note_bound e BindsLocal at = sym (or-true (is_some e.bound_at))
note_bound e BindsVariable at = sym (or-true (is_some e.bound_at))
note_bound e BindsIndex at = sym (or-true (is_some e.bound_at))
note_bound e r at = sym (or-false (is_some e.bound_at))

note_as_bound : (e : Entry) (r : Role) (at : ℕ) → (noted e r at).as_bound ≡ (e.as_bound || binds_bound r)
note_as_bound e BindsBound at = sym (or-true e.as_bound)
note_as_bound e r at = sym (or-false e.as_bound)

note_as_index : (e : Entry) (r : Role) (at : ℕ) → (noted e r at).as_index ≡ (e.as_index || binds_index r)
note_as_index e BindsIndex at = sym (or-true e.as_index)
note_as_index e r at = sym (or-false e.as_index)

note_foreseen : (e : Entry) (r : Role) (at : ℕ) → ((noted e r at).declared_somewhere ≡ e.declared_somewhere) × ((noted e r at).variable_somewhere ≡ e.variable_somewhere)
note_foreseen e r at = elim r as (λ r. ((noted e r at).declared_somewhere ≡ e.declared_somewhere) × ((noted e r at).variable_somewhere ≡ e.variable_somewhere)) [ Declares a ↦ (refl, refl) | _ ↦ (refl, refl) ]

note_early : (e : Entry) (r : Role) (n : ℕ) → ((at : ℕ) → e.bound_at ≡ Some at → at < n) → (at : ℕ) → (noted e r n).bound_at ≡ Some at → at < n + 1
note_early e BindsLocal n h at i = let j : n ≡ at = cc in omega arith
note_early e BindsVariable n h at i = let j : n ≡ at = cc in omega arith
note_early e BindsIndex n h at i = let j : n ≡ at = cc in omega arith
note_early e r n h at i = let j : at < n = h at i in omega arith

-- no name is bound yet in a part that begins
since_later : (o : Option ℕ) (n : ℕ) → ((at : ℕ) → o ≡ Some at → at < n) → is_since (n + 1) o ≡ false
since_later None n h = refl
since_later (Some at) n h = let i : at < n = h at refl in lt-leb (n + 1) at (omega arith)

-- the column of the names of the part that is open
own_bound : (start n : ℕ) (own : Uses) (u : Use Role) → start ≤ n → binds u.role ≡ true → is_since start (Some n) ≡ is_used binds u.name (own ++ u ∷ [])
own_bound start n own u l b = le-leb start n l ∙ sym (push_same binds u.name own u (eq-eqb u.name u.name refl) ∙ (ap (λ c. is_used binds u.name own || c) b ∙ or-true (is_used binds u.name own)))

own_kept : (c : Bool) (own : Uses) (u : Use Role) → binds u.role ≡ false → c ≡ is_used binds u.name own → c ≡ is_used binds u.name (own ++ u ∷ [])
own_kept c own u b e = e ∙ sym (push_same binds u.name own u (eq-eqb u.name u.name refl) ∙ (ap (λ c. is_used binds u.name own || c) b ∙ or-false (is_used binds u.name own)))

note_own : (e : Entry) (s : Scope) (n : ℕ) (own : Uses) (r : Role) (x left : ℕ) → ((at : ℕ) → e.bound_at ≡ Some at → at < n) → s.start ≤ n → is_since s.start e.bound_at ≡ is_used binds x own → is_since (part_behind s r n).start (noted e r n).bound_at ≡ is_used binds x (since own (record { role = r; name = x; left = left }))
note_own e s n own (Enters p) x left h l k = since_later e.bound_at n h
note_own e s n own BindsLocal x left h l k = own_bound s.start n own (record { role = BindsLocal; name = x; left = left }) l refl
note_own e s n own BindsVariable x left h l k = own_bound s.start n own (record { role = BindsVariable; name = x; left = left }) l refl
note_own e s n own BindsIndex x left h l k = own_bound s.start n own (record { role = BindsIndex; name = x; left = left }) l refl
note_own e s n own r x left h l k = own_kept (is_since s.start e.bound_at) own (record { role = r; name = x; left = left }) refl k

keep_own : (e : Entry) (s : Scope) (n : ℕ) (own : Uses) (r : Role) (y left x : ℕ) → (y == x) ≡ false → ((at : ℕ) → e.bound_at ≡ Some at → at < n) → is_since s.start e.bound_at ≡ is_used binds x own → is_since (part_behind s r n).start e.bound_at ≡ is_used binds x (since own (record { role = r; name = y; left = left }))
keep_own e s n own (Enters p) y left x d h k = since_later e.bound_at n h
keep_own e s n own r y left x d h k = k ∙ sym (push_other binds x own (record { role = r; name = y; left = left }) d)

-- The entry of the name that is used, and those of the other names.

length_push : (us : Uses) (u : Use Role) → length (us ++ u ∷ []) ≡ length us + 1
length_push us u = length-append us (u ∷ [])

pub known_noted : (all before : Uses) (s : Scope) (e : Entry) (u : Use Role) → (declares u.role ≡ true → is_declared before u.name ≡ false) → s.start ≤ length before → IsKnown all before u.name s.start e → IsKnown all (before ++ u ∷ []) u.name (part_behind s u.role (length before)).start (noted e u.role (length before))
known_noted all before s e u first l k = record {
  declared_somewhere = (note_foreseen e u.role n).0 ∙ k.declared_somewhere;
  variable_somewhere = (note_foreseen e u.role n).1 ∙ k.variable_somewhere;
  declared = note_declared e u.role n ∙ more declares (is_some e.declared) k.declared;
  asked = λ a. note_asked a e u.role n (λ h. k.declared ∙ first h) ∙ more (declares_as a) (was_declared a e.declared) (k.asked a);
  bound = note_bound e u.role n ∙ more binds (is_some e.bound_at) k.bound;
  own = note_own e s n (own_from [] before) u.role u.name u.left k.early l k.own ∙ ap (is_used binds u.name) (sym (own_from_push [] before u));
  early = λ at h. subst (λ m. at < m) (sym (length_push before u)) (note_early e u.role n k.early at h);
  as_bound = note_as_bound e u.role n ∙ more binds_bound e.as_bound k.as_bound;
  as_index = note_as_index e u.role n ∙ more binds_index e.as_index k.as_index;
}
  where
    n : ℕ
    n = length before

    more : (p : Role → Bool) (c : Bool) → c ≡ is_used p u.name before → (c || p u.role) ≡ is_used p u.name (before ++ u ∷ [])
    more p c h = ap (λ b. b || p u.role) h ∙ sym (push_same p u.name before u (eq-eqb u.name u.name refl))

pub known_kept : (all before : Uses) (s : Scope) (e : Entry) (u : Use Role) (x : ℕ) → (u.name == x) ≡ false → IsKnown all before x s.start e → IsKnown all (before ++ u ∷ []) x (part_behind s u.role (length before)).start e
known_kept all before s e u x d k = record {
  declared_somewhere = k.declared_somewhere;
  variable_somewhere = k.variable_somewhere;
  declared = k.declared ∙ sym (push_other declares x before u d);
  asked = λ a. k.asked a ∙ sym (push_other (declares_as a) x before u d);
  bound = k.bound ∙ sym (push_other binds x before u d);
  own = keep_own e s (length before) (own_from [] before) u.role u.name u.left x d k.early k.own ∙ ap (is_used binds x) (sym (own_from_push [] before u));
  early = λ at h. let i : at < length before = k.early at h in let j = length_push before u in omega arith;
  as_bound = k.as_bound ∙ sym (push_other binds_bound x before u d);
  as_index = k.as_index ∙ sym (push_other binds_index x before u d);
}
