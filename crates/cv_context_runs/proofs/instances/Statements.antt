-- The terms of a statement are apt, where their sites are those of the game from a number on.
use Rattle.std.proofs.Common.{◌≡◌, ℕ, suc, ◌+◌, true, false, List, [], ◌∷◌, ◌++◌, Option, Some, None, refl, sym, subst, arith}
use Rattle.std.proofs.lemmas.Bool.{both_ways, and_parts}
use Rattle.std.specs.Prelude.{slice_get}
use Rattle.cv_syntax_trees.specs.declared.head.Head.{Head}
use Rattle.cv_syntax_trees.specs.declared.head.Head.TheVariants.{And, Apply, Cons, Eq, Leaf, Name, No, Not, Or, Read, Yes}
use Rattle.cv_syntax_trees.specs.Tree.{Tree, Empty, Node, first_place, second_place}
use Rattle.cv_scope_rules.specs.Context.{first_position, replications_below, second_position}
use Rattle.cv_scope_rules.specs.Phrases.{Indices, Message, Nil, Term, Terms, is_phrase}
use Rattle.cv_scope_rules.specs.declared.position.Position.TheVariants.{Anywhere}
use Rattle.cv_scene.specs.Instances.{Call, Matching, call_at}
use Rattle.cv_scene.specs.Sites.{Site, sites_in}
use Rattle.cv_scene.specs.Reductions.{Reduction, matching}
use Rattle.cv_scene.specs.Refusals.{first_use}
use Rattle.cv_scene.specs.Apt.{AreSitesApt, AreTermsApt, IsSiteApt}
use Rattle.cv_match_laws.specs.instances.Uses.{uses_outside}
use Rattle.cv_context_runs.specs.instances.Statements.{AreTermsOf, HasOwnSites}
use Rattle.cv_context_runs.proofs.instances.Own.{site_without_refusal}
use Rattle.cv_context_runs.proofs.instances.Plain.{terms_plain}

-- sites that differ in their places alone, below given replications

abbrev pub AreSame : List (ℕ × ℕ) → List Site → List Site → Type 0
AreSame rs [] [] = Unit {0}
AreSame rs (c ∷ cs) (d ∷ ds) = ((c.term ≡ d.term) × (c.call ≡ d.call) × (d.replications ≡ rs)) × AreSame rs cs ds
AreSame rs cs ds = ⊥

same_both : (rs : List (ℕ × ℕ)) (ks bs cs ds : List Site) → AreSame rs ks bs → AreSame rs cs ds → AreSame rs (ks ++ cs) (bs ++ ds)
same_both rs [] [] cs ds h k = k
same_both rs (a ∷ ks) (b ∷ bs) cs ds h k = (h.0, same_both rs ks bs cs ds h.1 k)
same_both rs [] (b ∷ bs) cs ds h k = absurd h
same_both rs (a ∷ ks) [] cs ds h k = absurd h

module _ (M : Matching) (rs : List (ℕ × ℕ)) where
  abbrev AreBelow : Tree → Type 0
  AreBelow t = (p q : ℕ) → AreSame rs (sites_in M Anywhere rs p t) (sites_in M Anywhere rs q t)

  below_empty : AreBelow Empty
  unfolding sites_in
  below_empty p q = tt

  below_node : (h : Head) (a b : Tree) → first_position Anywhere h ≡ Anywhere → second_position Anywhere h ≡ Anywhere → replications_below h rs ≡ rs → AreBelow a → AreBelow b → AreBelow (Node h a b)
  unfolding sites_in
  below_node h a b e f g i j p q = go (call_at M (Node h a b))
    where
      left : AreSame rs (sites_in M (first_position Anywhere h) rs (first_place p h) a) (sites_in M (first_position Anywhere h) rs (first_place q h) a)
      left = subst (λ w. AreSame rs (sites_in M w rs (first_place p h) a) (sites_in M w rs (first_place q h) a)) (sym e) (i (first_place p h) (first_place q h))

      right : AreSame rs (sites_in M (second_position Anywhere h) (replications_below h rs) (second_place p h a) b) (sites_in M (second_position Anywhere h) (replications_below h rs) (second_place q h a) b)
      right =
          subst (λ qs. AreSame rs (sites_in M (second_position Anywhere h) qs (second_place p h a) b) (sites_in M (second_position Anywhere h) qs (second_place q h a) b)) (sym g)
          (subst (λ w. AreSame rs (sites_in M w rs (second_place p h a) b) (sites_in M w rs (second_place q h a) b)) (sym f) (j (second_place p h a) (second_place q h a)))

      go : (o : Option Call) → AreSame rs (elim o as (λ _. List Site) [
        | Some c ↦ record { place = p; term = Node h a b; replications = rs; call = c } ∷ []
        | None ↦ sites_in M (first_position Anywhere h) rs (first_place p h) a ++ sites_in M (second_position Anywhere h) (replications_below h rs) (second_place p h a) b
      ]) (elim o as (λ _. List Site) [
        | Some c ↦ record { place = q; term = Node h a b; replications = rs; call = c } ∷ []
        | None ↦ sites_in M (first_position Anywhere h) rs (first_place q h) a ++ sites_in M (second_position Anywhere h) (replications_below h rs) (second_place q h a) b
      ])
      go (Some c) = ((refl, refl, refl), tt)
      go None =
          same_both rs (sites_in M (first_position Anywhere h) rs (first_place p h) a) (sites_in M (first_position Anywhere h) rs (first_place q h) a)
          (sites_in M (second_position Anywhere h) (replications_below h rs) (second_place p h a) b) (sites_in M (second_position Anywhere h) (replications_below h rs) (second_place q h a) b) left right

  below_nil : (t : Tree) → is_phrase Nil t ≡ true → AreBelow t
  unfolding is_phrase
  below_nil Empty e = below_empty
  below_nil (Node h a b) e = absurd (both_ways false refl e)

  below_indices : (t : Tree) → is_phrase Indices t ≡ true → AreBelow t
  unfolding is_phrase
  below_indices Empty e = below_empty
  below_indices (Node (Name x) a b) e = let p = and_parts (is_phrase Nil a) _ e in below_node (Name x) a b refl refl refl (below_nil a p.0) (below_indices b p.1)
  below_indices (Node h a b) e = absurd (both_ways false refl e)

  mutual
    unfolding is_phrase

    pub below_term : (t : Tree) → is_phrase Term t ≡ true → AreBelow t
    below_term (Node (Leaf x) a b) e = let p = and_parts (is_phrase Nil a) _ e in below_node (Leaf x) a b refl refl refl (below_nil a p.0) (below_nil b p.1)
    below_term (Node (Read x) a b) e = let p = and_parts (is_phrase Terms a) _ e in below_node (Read x) a b refl refl refl (below_terms a p.0) (below_nil b p.1)
    below_term (Node (Apply g) a b) e = let p = and_parts (is_phrase Terms a) _ e in below_node (Apply g) a b refl refl refl (below_terms a p.0) (below_nil b p.1)
    below_term (Node Eq a b) e = let p = and_parts (is_phrase Term a) _ e in below_node Eq a b refl refl refl (below_term a p.0) (below_term b p.1)
    below_term (Node And a b) e = let p = and_parts (is_phrase Term a) _ e in below_node And a b refl refl refl (below_term a p.0) (below_term b p.1)
    below_term (Node Or a b) e = let p = and_parts (is_phrase Term a) _ e in below_node Or a b refl refl refl (below_term a p.0) (below_term b p.1)
    below_term (Node Not a b) e = let p = and_parts (is_phrase Term a) _ e in below_node Not a b refl refl refl (below_term a p.0) (below_nil b p.1)
    below_term (Node Yes a b) e = let p = and_parts (is_phrase Nil a) _ e in below_node Yes a b refl refl refl (below_nil a p.0) (below_nil b p.1)
    below_term (Node No a b) e = let p = and_parts (is_phrase Nil a) _ e in below_node No a b refl refl refl (below_nil a p.0) (below_nil b p.1)
    below_term t e = absurd (both_ways false refl e)

    pub below_terms : (t : Tree) → is_phrase Terms t ≡ true → AreBelow t
    below_terms Empty e = below_empty
    below_terms (Node Cons a b) e = let p = and_parts (is_phrase Term a) _ e in below_node Cons a b refl refl refl (below_term a p.0) (below_terms b p.1)
    below_terms t e = absurd (both_ways false refl e)

  pub below_message : (t : Tree) → is_phrase Message t ≡ true → AreBelow t
  unfolding is_phrase
  below_message (Node Cons a b) e = let p = and_parts (is_phrase Indices a) _ e in below_node Cons a b refl refl refl (below_indices a p.0) (below_terms b p.1)
  below_message t e = absurd (both_ways false refl e)

-- an apt site at another place

moved : (r : Reduction) (rs : List (ℕ × ℕ)) (n p q : ℕ) (m : Tree) (qs ss : List (ℕ × ℕ)) (c : Call) → IsSiteApt r rs n (record { place = p; term = m; replications = qs; call = c }) → IsSiteApt r rs n (record { place = q; term = m; replications = ss; call = c })
moved r rs n p q m qs ss c h = record { listed = h.listed; body = h.body; left = h.left; called = h.called; key = h.key; key_indices = h.key_indices; coins = h.coins; many = h.many; arguments = h.arguments }

moved_to : (r : Reduction) (rs : List (ℕ × ℕ)) (n : ℕ) (c d : Site) → c.term ≡ d.term → c.call ≡ d.call → d.replications ≡ rs → IsSiteApt r d.replications n d → IsSiteApt r rs n c
moved_to r rs n c d e f g h =
    subst (λ m. IsSiteApt r rs n (record { place = c.place; term = m; replications = c.replications; call = c.call })) (sym e)
    (subst (λ k. IsSiteApt r rs n (record { place = c.place; term = d.term; replications = c.replications; call = k })) (sym f)
    (moved r rs n d.place c.place d.term d.replications c.replications d.call (subst (λ qs. IsSiteApt r qs n d) g h)))

sites_apt : (r : Reduction) (rs : List (ℕ × ℕ)) (n : ℕ) (cs ds : List Site) → AreSame rs cs ds → ((k : ℕ) (d : Site) → slice_get ds k ≡ Some d → IsSiteApt r d.replications (n + k) d) → AreSitesApt r rs n cs
sites_apt r rs n [] [] h f = tt
sites_apt r rs n (c ∷ cs) (d ∷ ds) h f = (
  moved_to r rs n c d h.0.0 h.0.1 h.0.2 (subst (λ k. IsSiteApt r d.replications k d) (let e : n + 0 ≡ n = omega arith in e) (f 0 d refl)),
  sites_apt r rs (suc n) cs ds h.1 (λ k s e. subst (λ j. IsSiteApt r s.replications j s) (let e : n + suc k ≡ suc n + k = omega arith in e) (f (suc k) s e)),
)
sites_apt r rs n [] (d ∷ ds) h f = absurd h
sites_apt r rs n (c ∷ cs) [] h f = absurd h

pub inside_apt : (r : Reduction) (rs : List (ℕ × ℕ)) (n p : ℕ) (t : Tree) → AreSame rs (sites_in (matching r) Anywhere rs 0 t) (sites_in (matching r) Anywhere rs p t)
    → ((k : ℕ) (d : Site) → slice_get (sites_in (matching r) Anywhere rs p t) k ≡ Some d → IsSiteApt r d.replications (n + k) d) → AreSitesApt r rs n (sites_in (matching r) Anywhere rs 0 t)
inside_apt r rs n p t h f = sites_apt r rs n (sites_in (matching r) Anywhere rs 0 t) (sites_in (matching r) Anywhere rs p t) h f

module _ (r : Reduction) (own : HasOwnSites r) (rs : List (ℕ × ℕ)) (n p : ℕ) (t : Tree) (of : AreTermsOf r rs n p t) where
  pub terms_apt : ((p : ℕ) → first_use (matching r) Anywhere p t ≡ None → uses_outside (matching r) Anywhere r.key t ≡ 0) → AreSame rs (sites_in (matching r) Anywhere rs 0 t) (sites_in (matching r) Anywhere rs p t) → AreTermsApt r rs n t
  terms_apt free same = record {
    outside = terms_plain r t free p of.key of.coins of.answers;
    sites = inside_apt r rs n p t same (λ k s e. site_without_refusal r own.left own.coins (n + k) s (of.sites k s e) own.formed own.arguments own.answers (of.indices k s e));
  }
