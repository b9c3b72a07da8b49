-- Each value of such a variable stands at indices below the parameters of the variable's first definition.
use Rattle.std.proofs.Common.{◌≡◌, ℕ, ◌&&◌, ◌||◌, not, Bool, true, false, List, [], ◌∷◌, inr, Option, Some, None, refl, sym, ap, subst, ◌∙◌, eqb-true}
use Rattle.std.proofs.lemmas.Bool.{both_ways, and_parts}
use Rattle.std.specs.List.{AllByRecursion}
use Rattle.cv_syntax_trees.specs.declared.head.Head.{Head}
use Rattle.cv_syntax_trees.specs.declared.head.Head.TheVariants.{New}
use Rattle.cv_syntax_trees.specs.Declarations.{Declaration}
use Rattle.cv_syntax_trees.specs.Tree.{Tree, Node, first_place, second_place}
use Rattle.cv_meaning.specs.Interpretation.{Setting}
use Rattle.cv_meaning.specs.Memory.{Indices, Store, Happened, tuple}
use Rattle.cv_meaning_laws.specs.adequacy.Typed.{AreBelowParameters}
use Rattle.cv_syntax_trees.specs.sites.Sites.{Variable as FirstSite, first_site}
use Rattle.cv_scope_rules.specs.Context.{Context, replications_below}
use Rattle.cv_scope_rules.specs.Made.{made_by}
use Rattle.cv_scope_rules.specs.Phrases.{Inputs, IsWellFormed, Phrase}
use Rattle.cv_scope_rules.specs.Scope.{is_variable, names_of}
use Rattle.cv_scope_rules.specs.Sites.{Variable, sites_from, sites_here}
use Rattle.cv_scope_rules.specs.Standing.{at_root}
use Rattle.cv_scope_rules.proofs.Apart.{first_replications, second_replications}
use Rattle.cv_scope_runs.specs.Promises.{AreIndicesOf, after_site}
use Rattle.cv_scope_runs.proofs.Games.{Game}
use Rattle.cv_scope_runs.proofs.PathRuns.{SiteHolds, StoreHolds}
use Rattle.cv_scope_runs.proofs.Rows.{position_of}
use Rattle.cv_scope_runs.proofs.Standing.{Stands, root, in_first, in_second}
use Rattle.cv_typing_runs.specs.Games.{parameters_of}
use Rattle.cv_typing_runs.proofs.Games.{first_nothing}
use Rattle.cv_typing_runs.proofs.SameSites.{Agrees, sites_agree}
use Rattle.cv_syntax_trees.proofs.lists.Each.{AllByRecursion_left, AllByRecursion_right}
use Rattle.cv_scene.specs.Scenes.{has_news_alone, is_new_head}
use Rattle.cv_costs.proofs.wording.Reworded.{news_first, news_second}

-- all sites of a variable have the parameters of the first one
module _ (ds : List Declaration) (game : Tree) (well : IsWellFormed ds game) where
  abbrev F : ℕ → Option FirstSite
  F x = first_site x [] game

  sites_alike : AllByRecursion (Agrees F) (sites_from [] 0 game)
  sites_alike = sites_agree F (names_of ds game) Inputs at_root [] game refl well.phrase well.scoped tt (λ x. inr (None, first_nothing (first_site x [] game)))

  agree_below : {p : ℕ} {σ : Phrase} {Γ : Context} {b : Tree} → Stands game p σ Γ b → AllByRecursion (Agrees F) (sites_from Γ.replications p b)
  unfolding sites_from
  agree_below root = sites_alike
  agree_below (in_first {p = p} {σ = σ} {Γ = Γ} {h = h} {a = a} {b = b} e st) =
      subst (λ rs. AllByRecursion (Agrees F) (sites_from rs (first_place p h) a)) (sym (first_replications (position_of σ) h Γ))
      (AllByRecursion_left (Agrees F) (sites_from Γ.replications (first_place p h) a) (sites_from (replications_below h Γ.replications) (second_place p h a) b)
      (AllByRecursion_right (Agrees F) (sites_here Γ.replications p h a) _ (agree_below st)))
  agree_below (in_second {p = p} {σ = σ} {Γ = Γ} {h = h} {a = a} {b = b} e st) =
      subst (λ rs. AllByRecursion (Agrees F) (sites_from rs (second_place p h a) b)) (sym (second_replications (position_of σ) h a Γ))
      (AllByRecursion_right (Agrees F) (sites_from Γ.replications (first_place p h) a) (sites_from (replications_below h Γ.replications) (second_place p h a) b)
      (AllByRecursion_right (Agrees F) (sites_here Γ.replications p h a) _ (agree_below st)))

  -- of a `new`
  pub parameters_there : {p : ℕ} {σ : Phrase} {Γ : Context} {x T : ℕ} {a b : Tree} → Stands game p σ Γ (Node (New x T) a b) → (V : FirstSite) → first_site x [] game ≡ Some V → V.parameters ≡ parameters_of Γ.replications
  unfolding sites_from
  parameters_there {x = x} st V e =
      let z = (agree_below st).0 x refl in
      let i : Some V ≡ Some z.0 = sym e ∙ z.1 in
      let j : V ≡ z.0 = cc in
      ap (λ (v : FirstSite). v.parameters) j ∙ z.2

-- what stands in a game whose variable has `new` alone
pub news_there : (x : ℕ) (game : Tree) → has_news_alone x game ≡ true → {p : ℕ} {σ : Phrase} {Γ : Context} {b : Tree} → Stands game p σ Γ b → has_news_alone x b ≡ true
news_there x game n root = n
news_there x game n (in_first {h = h} {a = a} {b = b} e st) = news_first x h a b (news_there x game n st)
news_there x game n (in_second {h = h} {a = a} {b = b} e st) = news_second x h a b (news_there x game n st)

-- the definition is a `new` of the variable
pub record IsNew (x : ℕ) (h : Head) : Type 0 where
  pub type : ℕ
  pub is : h ≡ New x type

pub made_new : (x : ℕ) (h : Head) (a b : Tree) → has_news_alone x (Node h a b) ≡ true → made_by h a (Variable x) ≡ true → IsNew x h
unfolding has_news_alone
made_new x h a b n m = go h (and_parts (is_new_head h || not (made_by h a (Variable x))) (has_news_alone x a && has_news_alone x b) n).0 m
  where
    no : (k : Bool) → k ≡ true → (false || not k) ≡ true → ⊥
    no true e f = both_ways false refl f
    no false e f = both_ways false refl e

    go : (h : Head) → (is_new_head h || not (made_by h a (Variable x))) ≡ true → made_by h a (Variable x) ≡ true → IsNew x h
    go (New y T) e f = record { type = T; is = ap (λ z. New z T) (sym (eqb-true x y f)) }
    go h e f = absurd (no _ f e)

-- so each value stands below the parameters
module _ (ds : List Declaration) (g : Setting) (game : Tree) (fine : Game g (is_variable game) game) (well : IsWellFormed ds game) (x : ℕ) (news : has_news_alone x game ≡ true) (V : FirstSite) (first : first_site x [] game ≡ Some V) where
  below : (at : Indices) (rs : List (ℕ × ℕ)) → AreIndicesOf g at rs → AreBelowParameters g.interpretation (parameters_of rs) (tuple at)
  below [] [] h = tt
  below [] (r ∷ rs) h = absurd h
  below (p ∷ at) [] h = absurd h
  below (p ∷ at) (r ∷ rs) h = (h.1, below at rs h.2)

  pub all_below : (m : Store) (es : List Happened) → StoreHolds g (is_variable game) game fine m es → (w : List ℕ) (v : ℕ) → m x w ≡ Some v → AreBelowParameters g.interpretation V.parameters w
  all_below m es h w v e =
      let k : SiteHolds g (is_variable game) game fine x w v m es = h x w v e in
      let n : IsNew x k.head = made_new x k.head k.one k.two (news_there x game news k.stands) k.defines in
      let st : Stands game k.place k.phrase k.above (Node (New x n.type) k.one k.two) = subst (λ (f : Head). Stands game k.place k.phrase k.above (Node f k.one k.two)) n.is k.stands in
      let named : AreIndicesOf g k.indices (after_site (New x n.type) k.one k.two k.above).replications = subst (λ (f : Head). AreIndicesOf g k.indices (after_site f k.one k.two k.above).replications) n.is k.matches.named in
      subst (λ u. AreBelowParameters g.interpretation V.parameters u) k.at
      (subst (λ ps. AreBelowParameters g.interpretation ps (tuple k.indices)) (sym (parameters_there ds game well st V first)) (below k.indices k.above.replications named))
