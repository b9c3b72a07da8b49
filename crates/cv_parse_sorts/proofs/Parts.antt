-- Uses of names that neither begin nor end a part of a file, and what binders bind among them.
use Rattle.std.proofs.Common.{◌≡◌, ℕ, Bool, true, false, ◌==◌, ◌&&◌, ◌||◌, not, List, [], ◌∷◌, ◌++◌, append_assoc, ◌⊎◌, inl, inr, Option, Some, None, refl, ap, sym, subst, ◌∙◌}
use Rattle.std.proofs.lemmas.Bool.{both_ways, or_cases, or_left, or_right}
use Rattle.std.proofs.lemmas.List.Folds.{list_any-append}
use Rattle.std.specs.List.{AllByRecursion}
use Rattle.cv_syntax_trees.specs.Tree.{Tree, binders, bound_names}
use Rattle.cv_parse_notation.specs.declared.sign.Mark.TheVariants as mark
use Rattle.cv_parse_notation.specs.declared.sign.Sign.{Sign}
use Rattle.cv_parse_notation.specs.Form.{Form, ◌▸◌}
use Rattle.cv_parse_notation.specs.Spells.{Each, Relation, Spells, Use, starts}
use Rattle.cv_parse_grammar.specs.declared.role.Region.{Region}
use Rattle.cv_parse_grammar.specs.declared.role.Role.{Role}
use Rattle.cv_parse_grammar.specs.declared.role.Role.TheVariants.{Asks, BindsLocal, Mentions, AsCall, AsArray, AsBare, Enters}
use Rattle.cv_parse_grammar.specs.Names.{Uses, binds, is_used, own_from, part_after, part_from, since}
use Rattle.cv_parse_grammar.specs.Phrases.{Sort, typed}
use Rattle.cv_parse_grammar.specs.Phrases as sort
use Rattle.cv_parse_grammar.specs.Rules.{heads}
use Rattle.cv_parse_grammar.specs.yields.Yields.{AllUsed}
use Rattle.cv_derive_laws.specs.stores.Truth.{is_name_of}
use Rattle.cv_parse_laws.proofs.roles.UsedRoles.{IsIn, form_uses}

-- roles

abbrev pub is_of_term : Role → Bool
is_of_term Mentions = true
is_of_term AsCall = true
is_of_term AsArray = true
is_of_term AsBare = true
is_of_term r = false

abbrev pub is_of_binder : Role → Bool
is_of_binder BindsLocal = true
is_of_binder (Asks a) = true
is_of_binder r = false

abbrev pub is_term_sort : Sort → Bool
is_term_sort sort.Term = true
is_term_sort sort.Conjunction = true
is_term_sort sort.Primary = true
is_term_sort sort.Unequal = true
is_term_sort sort.Parentheses = true
is_term_sort sort.Arguments = true
is_term_sort sort.Subscript = true
is_term_sort s = false

abbrev pub no_sorts : Sort → Bool
no_sorts s = false

-- a use that neither begins nor ends a part
abbrev pub IsInside : Use Role → Type 0
IsInside u = ((p : Option Region) → part_after p u.role ≡ p) × ((seen : Uses) → since seen u ≡ seen ++ u ∷ [])

pub term_inside : (u : Use Role) → is_of_term u.role ≡ true → IsInside u
term_inside u e = go u.role refl e
  where
    go : (r : Role) → u.role ≡ r → is_of_term r ≡ true → IsInside u
    go Mentions f e = ((λ p. ap (part_after p) f), (λ seen. ap (λ r. elim r [ Enters q ↦ [] | r ↦ seen ++ u ∷ [] ]) f))
    go AsCall f e = ((λ p. ap (part_after p) f), (λ seen. ap (λ r. elim r [ Enters q ↦ [] | r ↦ seen ++ u ∷ [] ]) f))
    go AsArray f e = ((λ p. ap (part_after p) f), (λ seen. ap (λ r. elim r [ Enters q ↦ [] | r ↦ seen ++ u ∷ [] ]) f))
    go AsBare f e = ((λ p. ap (part_after p) f), (λ seen. ap (λ r. elim r [ Enters q ↦ [] | r ↦ seen ++ u ∷ [] ]) f))
    go r f e = absurd (both_ways false refl e)

pub binder_inside : (u : Use Role) → is_of_binder u.role ≡ true → IsInside u
binder_inside u e = go u.role refl e
  where
    go : (r : Role) → u.role ≡ r → is_of_binder r ≡ true → IsInside u
    go BindsLocal f e = ((λ p. ap (part_after p) f), (λ seen. ap (λ r. elim r [ Enters q ↦ [] | r ↦ seen ++ u ∷ [] ]) f))
    go (Asks a) f e = ((λ p. ap (part_after p) f), (λ seen. ap (λ r. elim r [ Enters q ↦ [] | r ↦ seen ++ u ∷ [] ]) f))
    go r f e = absurd (both_ways false refl e)

pub all_inside : (p : Role → Bool) → ((u : Use Role) → p u.role ≡ true → IsInside u) → (us : Uses) → AllUsed (IsIn p no_sorts) us → AllByRecursion IsInside us
all_inside p f [] w = tt
all_inside p f (u ∷ us) w = (f u w.0, all_inside p f us w.1)

-- the part that is open, and what was used there

pub part_append : (p : Option Region) (us vs : Uses) → part_from p (us ++ vs) ≡ part_from (part_from p us) vs
unfolding part_from
part_append p [] vs = refl
part_append p (u ∷ us) vs = part_append (part_after p u.role) us vs

pub part_kept : (p : Option Region) (us : Uses) → AllByRecursion IsInside us → part_from p us ≡ p
unfolding part_from
part_kept p [] w = refl
part_kept p (u ∷ us) w = ap (λ q. part_from q us) (w.0.0 p) ∙ part_kept p us w.1

pub own_append : (seen us vs : Uses) → own_from seen (us ++ vs) ≡ own_from (own_from seen us) vs
unfolding own_from
own_append seen [] vs = refl
own_append seen (u ∷ us) vs = own_append (since seen u) us vs

pub own_kept : (seen us : Uses) → AllByRecursion IsInside us → own_from seen us ≡ seen ++ us
unfolding own_from
own_kept [] [] w = refl
own_kept (s ∷ seen) [] w = ap (λ l. s ∷ l) (own_kept seen [] w)
own_kept seen (u ∷ us) w = ap (λ l. own_from l us) (w.0.1 seen) ∙ (own_kept (seen ++ u ∷ []) us w.1 ∙ append_assoc seen (u ∷ []) us)

-- behind the beginning of a part

abbrev pub enters : Region → ℕ → Use Role
enters q n = record { role = Enters q; name = 0; left = n }

pub part_there : (q : Region) (before us : Uses) (n : ℕ) → AllByRecursion IsInside us → part_from None (before ++ enters q n ∷ us) ≡ Some q
unfolding part_from
part_there q before us n w = part_append None before (enters q n ∷ us) ∙ part_kept (Some q) us w

pub own_there : (q : Region) (before us : Uses) (n : ℕ) → AllByRecursion IsInside us → own_from [] (before ++ enters q n ∷ us) ≡ us
unfolding own_from
own_there q before us n w = own_append [] before (enters q n ∷ us) ∙ own_kept [] us w

-- names that are asked for bind none
pub asks_bind_none : (x : ℕ) (us : Uses) → AllUsed (IsIn (λ r. not (binds r)) no_sorts) us → is_used binds x us ≡ false
asks_bind_none x [] w = refl
asks_bind_none x (u ∷ us) w = go (binds u.role) refl w.0 (asks_bind_none x us w.1)
  where
    go : (b : Bool) → binds u.role ≡ b → not b ≡ true → is_used binds x us ≡ false → ((binds u.role && (u.name == x)) || is_used binds x us) ≡ false
    go true e n f = absurd (both_ways false refl n)
    go false e n f = ap (λ b. (b && (u.name == x)) || is_used binds x us) e ∙ f

pub or_alone : (b c : Bool) → ((b || false) || c) ≡ true → (b || c) ≡ true
or_alone true c e = refl
or_alone false c e = e

-- what a row of binders binds

module _ (below : Sort → Relation Role Tree) (room : Bool) where
  abbrev pub Spelled : {A : Type 0} → Form Role Sort A → Relation Role A
  Spelled f = Spells heads room below f

  -- each name that is bound among the uses is one of these
  abbrev pub BindsOnly : List ℕ → Uses → Type 0
  BindsOnly names us = (x : ℕ) → is_used binds x us ≡ true → is_name_of names x ≡ true

  binds_front : (names more : List ℕ) (us front back : Uses) → us ≡ front ++ back → ((x : ℕ) → is_used binds x front ≡ true → is_name_of names x ≡ true) → BindsOnly more back → (y : ℕ) → is_used binds y us ≡ true → (is_name_of names y || is_name_of more y) ≡ true
  binds_front names more us front back e f k y i = go (or_cases (is_used binds y front) (is_used binds y back) (sym (ap (is_used binds y) e ∙ list_any-append (λ u. binds u.role && (u.name == y)) front back) ∙ i))
    where
      go : (is_used binds y front ≡ true) ⊎ (is_used binds y back ≡ true) → (is_name_of names y || is_name_of more y) ≡ true
      go (inl v) = or_left (is_name_of names y) (is_name_of more y) (f y v)
      go (inr v) = or_right (is_name_of names y) (is_name_of more y) (k y v)

  typed_binds : (ts : List Sign) (b : ℕ × ℕ) (us : Uses) (rest : List Sign) → Spelled (typed BindsLocal) ts b us rest → BindsOnly (b.0 ∷ []) us
  typed_binds ts b us rest d x e = go (or_cases (is_used binds x d.front) (is_used binds x d.back) (sym (ap (is_used binds x) d.uses ∙ list_any-append (λ u. binds u.role && (u.name == x)) d.front d.back) ∙ e))
    where
      none : is_used binds x d.back ≡ false
      none = asks_bind_none x d.back (form_uses (λ r. not (binds r)) no_sorts heads room below (λ s k. absurd (both_ways false refl k)) (mark.Colon ▸ sort.type_name) refl d.mid b.1 d.back rest d.second)

      go : (is_used binds x d.front ≡ true) ⊎ (is_used binds x d.back ≡ true) → is_name_of (b.0 ∷ []) x ≡ true
      go (inl k) = sym (ap (is_used binds x) d.first.uses) ∙ k
      go (inr k) = absurd (both_ways _ none k)

  more_bind : (ts : List Sign) (bs : List (ℕ × ℕ)) (us : Uses) (rest : List Sign) → Each (Spelled (mark.Comma ▸ typed BindsLocal)) false (starts heads (mark.Comma ▸ typed BindsLocal)) ts bs us rest → BindsOnly (bound_names (binders bs)) us
  more_bind ts [] us rest d x e = absurd (both_ways _ (ap (is_used binds x) d.0.uses) e)
  more_bind ts (b ∷ bs) us rest d x e = or_alone (b.0 == x) (is_name_of (bound_names (binders bs)) x) (binds_front (b.0 ∷ []) (bound_names (binders bs)) us d.front d.back d.uses front (more_bind d.mid bs d.back rest d.second) x e)
    where
      front : BindsOnly (b.0 ∷ []) d.front
      front y i =
          let k = d.first.1 in
          subst (λ c. is_name_of (c ∷ []) y ≡ true) (ap (λ (z : ℕ × ℕ). z.0) d.first.2)
          (typed_binds k.mid d.first.0.1 k.back d.mid k.second y (sym (ap (is_used binds y) (k.uses ∙ ap (λ l. l ++ k.back) k.first.uses)) ∙ i))

  abbrev pub AreBinders : Tree → Uses → Type 0
  AreBinders l us = (bs : List (ℕ × ℕ)) × (l ≡ binders bs) × BindsOnly (bound_names l) us

  pub only_front : (us front back : Uses) → us ≡ front ++ back → back ≡ [] → (x : ℕ) → is_used binds x us ≡ true → is_used binds x front ≡ true
  only_front us front back e f x k = go (or_cases (is_used binds x front) (is_used binds x back) (sym (ap (is_used binds x) e ∙ list_any-append (λ u. binds u.role && (u.name == x)) front back) ∙ k))
    where
      go : (is_used binds x front ≡ true) ⊎ (is_used binds x back ≡ true) → is_used binds x front ≡ true
      go (inl v) = v
      go (inr v) = absurd (both_ways _ (ap (is_used binds x) f) v)

  row_binds : (ts : List Sign) (bs : List (ℕ × ℕ)) (us : Uses) (rest : List Sign) → Spelled (sort.row mark.Comma (typed BindsLocal)) ts bs us rest → BindsOnly (bound_names (binders bs)) us
  row_binds ts bs us rest d =
      let k = d.1 in
      subst (λ l. BindsOnly (bound_names (binders l)) us) d.2
      (λ x e. or_alone (d.0.0.0 == x) (is_name_of (bound_names (binders d.0.1)) x) (binds_front (d.0.0.0 ∷ []) (bound_names (binders d.0.1)) us k.front k.back k.uses (typed_binds ts d.0.0 k.front k.mid k.first) (more_bind k.mid d.0.1 k.back rest k.second) x e))

  pub vars_bind : (ts : List Sign) (l : Tree) (us : Uses) (rest : List Sign) → Spelled (sort.vars BindsLocal) ts l us rest → AreBinders l us
  vars_bind ts l us rest d = (d.0, sym d.2, subst (λ t. BindsOnly (bound_names t) us) d.2 (row_binds ts d.0 us rest d.1))
