-- The terms of a typed game are typed where they stand, and the line of a `rewrite` is right.
use Rattle.std.proofs.Common.{◌≡◌, ℕ, ◌+◌, ◌-◌, Bool, true, false, cond, not, nat_lt, List, [], ◌∷◌, Option, Some, None, refl, sym, ap, subst, ◌∙◌, inl, inr}
use Rattle.std.specs.Prelude.{◌⊎◌}
use Rattle.std.proofs.lemmas.Bool.{and_from, and_parts, both_ways, or_right}
use Rattle.cv_syntax_trees.specs.declared.head.Head.{Head}
use Rattle.cv_syntax_trees.specs.declared.head.Head.TheVariants.{Eq, Read}
use Rattle.cv_syntax_trees.specs.Head.{weight}
use Rattle.cv_syntax_trees.specs.Tree.{Tree, Empty, Node, first, same_tree, size, subtree}
use Rattle.cv_syntax_trees.specs.declared.sites.sort.Sort.{Sort}
use Rattle.cv_syntax_trees.specs.sites.Sorts.{same_sort}
use Rattle.cv_syntax_trees.proofs.Equality.{same_tree_self}
use Rattle.cv_syntax.specs.faults.Walk.{IsObeyed}
use Rattle.cv_scope_rules.specs.Above.{first_standing, second_standing, standing_at}
use Rattle.cv_scope_rules.specs.Context.{Context, first_position, nothing_known, second_position}
use Rattle.cv_scope_rules.specs.Phrases.{Phrase, Nil, Inputs, Term, is_phrase, parts}
use Rattle.cv_scope_rules.specs.typing.Signature.{boolean, sort_of}
use Rattle.cv_scope_rules.specs.typing.Wants.{AnyTerm, Of, is_index_sent, is_wrong, like}
use Rattle.cv_scope_runs.proofs.Rows.{position_of}
use Rattle.cv_typing_runs.proofs.SameSites.{phrase_open}
use Rattle.cv_typing_runs.proofs.Terms.{same_sorts}
use Rattle.cv_derive_facts.proofs.Standings.{first_replications, second_replications}
use Rattle.cv_scene.specs.Derivations.{nothing_visible}
use Rattle.cv_scene.specs.Reasons.{are_of_types, equations_in, is_instance, is_reason}
use Rattle.cv_scene.specs.Scenes.{Scene, or_empty, part_at}
use Rattle.cv_scene.specs.Sights.{from_one, sight_at}
use Rattle.cv_scene.specs.Terms.{above_under, is_term_at, is_there, names_under, replications_at, signature_in}
use Rattle.cv_scene.specs.lines.Truths.{yes}
use Rattle.cv_steps.specs.Rewriting.{by_parts, has_sort_of, has_term_at, is_term, is_value, parts_of, sort_at}
use Rattle.cv_steps.proofs.Places.{bare}
use Rattle.cv_settling_laws.specs.Games.{IsTypedScene}
use Rattle.cv_settling_rules.specs.Rewritings.{by_bool, by_equation, equality_line}
use Rattle.cv_settling_laws.specs.Rewritings.{IsInstance, IsRewriting, IsTruth, MayBecome}
use Rattle.cv_settling_laws.proofs.Conjuncts.{is_line}
use Rattle.cv_settling_laws.proofs.Derived.{derives, number_is, number_is_small}
use Rattle.cv_settling_laws.proofs.Parts.{IsPart, first_part, game_part, positions, second_part}
use Rattle.cv_settling_laws.proofs.Places.{standing_replications}
use Rattle.cv_settling_laws.proofs.Standings.{part_term}
use Rattle.cv_settling_laws.proofs.Terms.{AreTerms, as_any, gives_by_sort, term_under, under_term, same_self}

-- the children of a node that may hold terms

parts_are : (σ : Phrase) (h : Head) (q : Phrase × Phrase) → parts σ h ≡ Some q → (parts_of σ h ≡ q) ⊎ (parts_of σ h ≡ (Nil, Nil))
parts_are σ (Read x) q e = inr refl
parts_are σ h q e = inl (ap (by_parts h) e)

term_is : (σ : Phrase) → is_term σ ≡ true → σ ≡ Term
term_is Term e = refl
term_is σ e = absurd (both_ways false refl e)

-- a term below the replications that stand above it
record IsTermBelow (s : Scene) (o : Option Context) (t : Tree) : Type 0 where
  above : Context
  is : o ≡ Some above
  part : IsPart s Term above.replications t

terms_stand : (s : Scene) (σ : Phrase) (Γ : Context) (t : Tree) (p : ℕ) → IsPart s σ Γ.replications t → has_term_at σ t p ≡ true → IsTermBelow s (standing_at (position_of σ) Γ t p) (part_at t p)
unfolding has_term_at standing_at subtree
terms_stand s σ Γ Empty p k e = absurd (both_ways false refl e)
terms_stand s σ Γ (Node h a b) p k e =
    let o = phrase_open σ h a b k.phrase in
    let z = positions σ h o.0 o.1 in
    go (nat_lt p (weight h)) (nat_lt p (weight h + size a)) e
    (λ f. subst (λ w. IsTermBelow s (standing_at w (first_standing (position_of σ) h Γ) a (p - weight h)) (part_at a (p - weight h))) (sym z.0)
    (terms_stand s o.0.0 (first_standing (position_of σ) h Γ) a (p - weight h) (subst (λ rs. IsPart s o.0.0 rs a) (sym (first_replications (position_of σ) h Γ)) (first_part s σ Γ.replications h a b k o.0 o.1)) (in_first o.0 (p - weight h) (parts_are σ h o.0 o.1) f)))
    (λ f. subst (λ w. IsTermBelow s (standing_at w (second_standing (position_of σ) h a Γ) b (p - (weight h + size a))) (part_at b (p - (weight h + size a)))) (sym z.1)
    (terms_stand s o.0.1 (second_standing (position_of σ) h a Γ) b (p - (weight h + size a)) (subst (λ rs. IsPart s o.0.1 rs b) (sym (second_replications (position_of σ) h a Γ)) (second_part s σ Γ.replications h a b k o.0 o.1)) (in_second o.0 (p - (weight h + size a)) (parts_are σ h o.0 o.1) f)))
  where
    in_first : (q : Phrase × Phrase) (r : ℕ) → (parts_of σ h ≡ q) ⊎ (parts_of σ h ≡ (Nil, Nil)) → has_term_at (parts_of σ h).0 a r ≡ true → has_term_at q.0 a r ≡ true
    in_first q r (inl i) f = subst (λ (c : Phrase × Phrase). has_term_at c.0 a r ≡ true) i f
    in_first q r (inr i) f = absurd (bare Nil a r refl (subst (λ (c : Phrase × Phrase). has_term_at c.0 a r ≡ true) i f))

    in_second : (q : Phrase × Phrase) (r : ℕ) → (parts_of σ h ≡ q) ⊎ (parts_of σ h ≡ (Nil, Nil)) → has_term_at (parts_of σ h).1 b r ≡ true → has_term_at q.1 b r ≡ true
    in_second q r (inl i) f = subst (λ (c : Phrase × Phrase). has_term_at c.1 b r ≡ true) i f
    in_second q r (inr i) f = absurd (bare Nil b r refl (subst (λ (c : Phrase × Phrase). has_term_at c.1 b r ≡ true) i f))

    x : Option Context
    x = standing_at (first_position (position_of σ) h) (first_standing (position_of σ) h Γ) a (p - weight h)

    y : Option Context
    y = standing_at (second_position (position_of σ) h) (second_standing (position_of σ) h a Γ) b (p - (weight h + size a))

    go : (c d : Bool) → cond c (is_term σ) (cond d (has_term_at (parts_of σ h).0 a (p - weight h)) (has_term_at (parts_of σ h).1 b (p - (weight h + size a)))) ≡ true
        → (has_term_at (parts_of σ h).0 a (p - weight h) ≡ true → IsTermBelow s x (part_at a (p - weight h))) → (has_term_at (parts_of σ h).1 b (p - (weight h + size a)) ≡ true → IsTermBelow s y (part_at b (p - (weight h + size a))))
        → IsTermBelow s (cond c (Some Γ) (cond d x y)) (or_empty (cond c (Some (Node h a b)) (cond d (subtree a (p - weight h)) (subtree b (p - (weight h + size a))))))
    go true d e f g = record { above = Γ; is = refl; part = subst (λ τ. IsPart s τ Γ.replications (Node h a b)) (term_is σ e) k }
    go false true e f g = f e
    go false false e f g = g e

pub term_there : (s : Scene) → IsTypedScene s → (p : ℕ) → has_term_at Inputs s.game p ≡ true → AreTerms s (replications_at s p) true AnyTerm (part_at s.game p)
term_there s g p e =
    let r = terms_stand s Inputs nothing_known s.game p (game_part s g) e in
    subst (λ rs. AreTerms s rs true AnyTerm (part_at s.game p)) (sym (standing_replications s p r.above r.is)) (as_any s r.above.replications r.part.typed.0 (part_at s.game p) (part_term s r.above.replications r.part.typed.0 (part_at s.game p) r.part r.part.typed.1))

pub terms_typed : (s : Scene) → IsTypedScene s → (p : ℕ) → has_term_at Inputs s.game p ≡ true → is_term_at s p (part_at s.game p) ≡ true
terms_typed s g p e = term_under s (replications_at s p) (part_at s.game p) (term_there s g p e)

-- the equation of two terms of one sort

equal_typed : (s : Scene) (rs : List (ℕ × ℕ)) (m n : Tree) → AreTerms s rs true AnyTerm m → AreTerms s rs true AnyTerm n → has_sort_of (sort_of (signature_in s) (above_under rs) m) (sort_of (signature_in s) (above_under rs) n) ≡ true → AreTerms s rs true (Of boolean) (Node Eq m n)
unfolding is_phrase is_there IsObeyed
equal_typed s rs m n j k e =
    let r = right (sort_of (signature_in s) (above_under rs) m) (sort_of (signature_in s) (above_under rs) n) e in
    record {
      phrase = and_from (is_phrase Term m) (is_phrase Term n) j.phrase k.phrase;
      there = and_from (is_there (names_under s rs) Term m) (is_there (names_under s rs) Term n) j.there k.there;
      typed = (refl, j.typed, gives_by_sort (signature_in s) (above_under rs) AnyTerm (like (sort_of (signature_in s) (above_under rs) m)) n k.phrase k.typed r.0 r.1);
    }
  where
    right : (o q : Option Sort) → has_sort_of o q ≡ true → (is_wrong (like o) q ≡ false) × (is_index_sent (like o) q ≡ false)
    right None q e = absurd (both_ways false refl e)
    right (Some R) None e = absurd (both_ways false refl e)
    right (Some R) (Some S) e = let same : R ≡ S = same_sorts S R (ap not e) in (ap (λ Q. not (same_sort R Q)) (sym same) ∙ same_self R, refl)

-- the line

module _ (s : Scene) (g : IsTypedScene s) (p : ℕ) (m : Tree) (k : MayBecome s p m) where
  abbrev old : Tree
  old = part_at s.game p

  line_derived : (reason : Tree) → is_reason (sight_at s p) Empty nothing_visible (Node Eq old m) reason ≡ true → IsRewriting s p m reason
  line_derived reason e =
      let there = (and_parts (has_term_at Inputs s.game p) (is_value (sort_at s p old)) k.rewritable).0 in
      let typed = equal_typed s (replications_at s p) old m (term_there s g p there) (under_term s (replications_at s p) m k.term) k.sort in
      derives (sight_at s p) (Node Eq old m) (equality_line old m reason ∷ []) (is_line (sight_at s p) nothing_visible (Node Eq old m) reason typed e, tt) refl

  pub truth_derived : IsTruth s p m → IsRewriting s p m by_bool
  truth_derived e = line_derived by_bool (or_right (same_tree (Node Eq old m) yes) _ e)

  pub instance_derived : (n : ℕ) (terms : Tree) → IsInstance s p m n terms → IsRewriting s p m (by_equation n terms)
  instance_derived n terms i =
      line_derived (by_equation n terms)
      (ap (λ j. is_instance (sight_at s p) (from_one (equations_in s.declarations) j) terms (Node Eq old m)) (number_is n (number_is_small (equations_in s.declarations) n i.equation i.few i.declared))
      ∙ (ap (λ o. is_instance (sight_at s p) o terms (Node Eq old m)) i.declared
      ∙ and_from (are_of_types (sight_at s p) (first i.equation) terms) _ i.types (ap (same_tree (Node Eq old m)) (sym i.says) ∙ same_tree_self (Node Eq old m))))
