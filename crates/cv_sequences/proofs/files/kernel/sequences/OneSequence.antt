-- Accepted steps lead to one sequence of games, where their names are drawn from one table.
use Rattle.std.proofs.Common.{◌≡◌, ℕ, suc, Bool, true, false, List, [], ◌∷◌, ◌++◌, length, map, Option, Some, None, option_and_then, refl, ap, ap₂, sym, ◌∙◌, subst}
use Rattle.std.proofs.lemmas.List.{map-append}
use Rattle.cv_pool.specs.names.Texts.{NoRepeat}
use Rattle.cv_syntax_trees.specs.Declarations.{Declaration}
use Rattle.cv_syntax_trees.specs.Tree.{Tree}
use Rattle.cv_bound.specs.declared.cost.Cost.{Cost}
use Rattle.cv_scene.specs.Scenes.{Scene}
use Rattle.cv_script.specs.Views.{StepItems, items_of_step}
use Rattle.cv_script.specs.Views as items
use Rattle.cv_rule_array_names.specs.Sites.{listed_names}
use Rattle.cv_steps.specs.Sequences.{scene}
use Rattle.cv_steps_laws.specs.crypto.Conditions.{Failure, equivalence_of, failure_of}
use Rattle.cv_steps_laws.specs.crypto.Steps.{IsOutcome, IsOutcomeBy, Outcome, reduction_of}
use Rattle.cv_steps_laws.specs.crypto.Steps as outcome
use Rattle.cv_bound.specs.costs.Costs.{advantage_of}
use Rattle.cv_kernel.specs.Closings.{closing_in, closing_of_items}
use Rattle.cv_kernel.specs.Drawings.{Draws, DrawsAlong, game_after, told}
use Rattle.cv_rule_array_names.specs.Drawings.{DrawsNames, texts_for}
use Rattle.cv_kernel.specs.Proofs.{IsProof, IsTransition, Transition, closed_by, game_behind, push, shape_at, start}
use Rattle.cv_kernel.specs.Sayings.{Accepted, MaySay, saying_by}
use Rattle.cv_kernel.proofs.Drawn.{drawn_before, last_told, told_last}
use Rattle.cv_sequences.proofs.files.kernel.sequences.OneTable.{games, stays_apart, tables, with_all}

-- an accepted cryptographic step has its equivalence, and costs one advantage

named_by : (s : Scene) (x : ℕ) (g : Tree) (t : Option Tree) (f : Option Failure) → IsOutcomeBy s t x f (outcome.Accepted g) → (e : Tree) × (t ≡ Some e)
named_by s x g (Some t) None w = (t, refl)
named_by s x g None None w = absurd w
named_by s x g t (Some f) w = absurd (cc)

named : (s : Scene) (n e x : ℕ) (g : Tree) (c : Cost) (o : Outcome) → IsOutcome s e x o → Accepted g c ≡ saying_by n e o → (t : Tree) × (equivalence_of s e ≡ Some t)
named s n e x g c (outcome.Accepted k) w q = named_by s x k (equivalence_of s e) (failure_of s e x) w
named s n e x g c (outcome.Refused d p) w q = absurd (cc)
named s n e x g c (outcome.TooLarge m) w q = absurd (cc)
named s n e x g c (outcome.TooDeep d) w q = absurd (cc)

cost_by : (n e : ℕ) (g : Tree) (c : Cost) (o : Outcome) → Accepted g c ≡ saying_by n e o → c ≡ advantage_of n e
cost_by n e g c (outcome.Accepted k) q = cc
cost_by n e g c (outcome.Refused d p) q = absurd (cc)
cost_by n e g c (outcome.TooLarge m) q = absurd (cc)
cost_by n e g c (outcome.TooDeep d) q = absurd (cc)

-- two acceptances of one step in one game are one, and draw one table
record AreOne (g h : Tree) (c d : Cost) (a b : List (List ℕ)) : Type 0 where
  pub next : g ≡ h
  pub cost : c ≡ d
  pub names : a ≡ b
  pub apart : NoRepeat a

-- names that a step gives are drawn once
names_once : (found : Bool) (m a b : List (List ℕ)) (own : ℕ) (game : Tree) (x : ℕ) (ys : List ℕ) → NoRepeat m → DrawsNames found m a own game x ys → DrawsNames found m b own game x ys → (a ≡ b) × NoRepeat a
names_once true m a b own game x ys u p q = (p.added ∙ sym q.added, subst NoRepeat (sym p.added) (with_all m (texts_for m own game x ys) u))
names_once false m a b own game x ys u p q = (p ∙ sym q, subst NoRepeat (sym p) u)

one_more : (found : Bool) (s : Scene) (ks : List ℕ) (n : ℕ) (step : Tree) (own : ℕ) (m a b : List (List ℕ)) (o : Option StepItems) (g h : Tree) (c d : Cost) → NoRepeat m → MaySay s ks n step o (Accepted g c) → MaySay s ks n step o (Accepted h d)
    → Draws found m a own s o (game_after (game_behind (option_and_then closing_of_items o) g) s.game) → Draws found m b own s o (game_after (game_behind (option_and_then closing_of_items o) h) s.game) → AreOne g h c d a b
one_more found s ks n step own m a b (Some (items.Crypto e x)) g h c d u w v p q =
    let t = named s n e x g c w.0 w.1 w.2 in
    let drawn = p t.0 t.1 in
    record {
      next = games m a b own (reduction_of s t.0 x) g h u drawn (q t.0 t.1);
      cost = cost_by n e g c w.0 w.2 ∙ sym (cost_by n e h d v.0 v.2);
      names = tables m a b own (reduction_of s t.0 x) g h drawn (q t.0 t.1);
      apart = stays_apart m a own (reduction_of s t.0 x) g u drawn;
    }
one_more found s ks n step own m a b (Some (items.ArrayRename x to)) g h c d u w v p q =
    let same : Accepted g c ≡ Accepted h d = w ∙ sym v in
    let once = names_once found m a b own s.game x (listed_names to) u p q in
    record { next = cc; cost = cc; names = once.0; apart = once.1 }
one_more found s ks n step own m a b o g h c d u w v p q =
    let same : Accepted g c ≡ Accepted h d = w ∙ sym v in
    record { next = cc; cost = cc; names = p ∙ sym q; apart = subst NoRepeat (sym p) u }

module _ (found : Bool) (ds : List Declaration) (known : ℕ → Bool) (own : ℕ) where
  abbrev here : Tree → Scene
  here game = scene ds known game

  -- two transitions of one step
  record AreSame (t u : Transition) (a b : List (List ℕ)) : Type 0 where
    pub one : t ≡ u
    pub names : a ≡ b
    pub apart : NoRepeat a

  same_step : (n : ℕ) (ks : List ℕ) (game : Tree) (m a b : List (List ℕ)) (t u : Transition) → NoRepeat m → t.step ≡ u.step → IsTransition ds known n ks game t → IsTransition ds known n ks game u
      → Draws found m a own (here game) (items_of_step t.step) (game_after (told t).1 game) → Draws found m b own (here game) (items_of_step u.step) (game_after (told u).1 game) → AreSame t u a b
  same_step n ks game m a b t u r e i j p q =
      let said = subst (λ x. MaySay (here game) ks n x (items_of_step x) (Accepted u.next u.cost)) (sym e) j.accepted in
      let drawn = subst (λ x. Draws found m b own (here game) (items_of_step x) (game_after (game_behind (closing_in x) u.next) game)) (sym e) q in
      let k = one_more found (here game) ks n t.step own m a b (items_of_step t.step) t.next u.next t.cost u.cost r i.accepted said p drawn in
      let context = i.context ∙ (ap (shape_at (here game)) e ∙ sym j.context) in
      record { one = λ l. record { step = e l; cost = k.cost l; context = context l; next = k.next l }; names = k.names; apart = k.apart }

  -- two sequences of the same steps
  pub record AreAlike (ts us : List Transition) (a b : List (List ℕ)) : Type 0 where
    pub one : ts ≡ us
    pub names : a ≡ b
    pub apart : NoRepeat a

  last_same : (xs ys : List Tree) (x y : Tree) → xs ++ x ∷ [] ≡ ys ++ y ∷ [] → (xs ≡ ys) × (x ≡ y)
  last_same [] [] x y e = (refl, cc)
  last_same [] (z ∷ []) x y e = absurd (cc)
  last_same [] (z ∷ (w ∷ ys)) x y e = absurd (cc)
  last_same (z ∷ []) [] x y e = absurd (cc)
  last_same (z ∷ (w ∷ xs)) [] x y e = absurd (cc)
  last_same (z ∷ xs) (w ∷ ys) x y e =
      let front : z ≡ w = cc in
      let rest : xs ++ x ∷ [] ≡ ys ++ y ∷ [] = cc in
      let r = last_same xs ys x y rest in
      (ap₂ (λ (t : Tree) (ts : List Tree). t ∷ ts) front r.0, r.1)

  no_end : (ts : List Transition) (t : Transition) → [] ≡ map (λ (x : Transition). x.step) (ts ++ t ∷ []) → ⊥
  no_end [] t e = absurd (cc)
  no_end (u ∷ ts) t e = absurd (cc)

  pub alike : (first g h : Tree) (ts us : List Transition) (a b c : List (List ℕ)) → NoRepeat a → IsProof ds known first ts g → IsProof ds known first us h → map (λ (t : Transition). t.step) ts ≡ map (λ (t : Transition). t.step) us
      → DrawsAlong found ds known own first (map told ts) a b → DrawsAlong found ds known own first (map told us) a c → AreAlike ts us b c
  alike first g h ts us a b c n start start e k l = record { one = refl; names = k ∙ sym l; apart = subst NoRepeat (sym k) n }
  alike first g h ts us a b c n start (push before game t p i) e k l = absurd (no_end before t e)
  alike first g h ts us a b c n (push before game t p i) start e k l = absurd (no_end before t (sym e))
  alike first g h ts us a b c n (push before game t p i) (push behind other u q j) e k l =
      let steps = last_same (map (λ (x : Transition). x.step) before) (map (λ (x : Transition). x.step) behind) t.step u.step (sym (map-append (λ (x : Transition). x.step) before (t ∷ [])) ∙ (e ∙ map-append (λ (x : Transition). x.step) behind (u ∷ []))) in
      let r = drawn_before found ds known own first (map told before) (told t) a b (subst (λ xs. DrawsAlong found ds known own first xs a b) (map-append told before (t ∷ [])) k) in
      let s = drawn_before found ds known own first (map told behind) (told u) a c (subst (λ xs. DrawsAlong found ds known own first xs a c) (map-append told behind (u ∷ [])) l) in
      let z = alike first game other before behind a r.0 s.0 n p q steps.0 r.1 s.1 in
      let leads = told_last ds known first before game p in
      let game_is : game ≡ other = sym leads ∙ (ap (λ xs. last_told first (map told xs)) z.one ∙ told_last ds known first behind other q) in
      let passes = subst (λ y. IsTransition ds known (suc (length before)) (closed_by before) y u) (sym game_is) (subst (λ xs. IsTransition ds known (suc (length xs)) (closed_by xs) other u) (sym z.one) j) in
      let draws = subst (λ y. Draws found r.0 b own (here y) (items_of_step t.step) (game_after (told t).1 y)) leads r.2 in
      let others = subst (λ y. Draws found s.0 c own (here y) (items_of_step u.step) (game_after (told u).1 y)) (told_last ds known first behind other q ∙ sym game_is) s.2 in
      let last = same_step (suc (length before)) (closed_by before) game r.0 b c t u z.apart steps.1 i passes draws (subst (λ xs. Draws found xs c own (here game) (items_of_step u.step) (game_after (told u).1 game)) (sym z.names) others) in
      record { one = ap₂ (λ (xs : List Transition) (x : Transition). xs ++ x ∷ []) z.one last.one; names = last.names; apart = last.apart }
