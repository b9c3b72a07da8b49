-- What the rows of steps ask, where they lead to a game.
use Rattle.std.proofs.Common.{◌≡◌, ℕ, Bool, true, false, List, [], ◌∷◌, Option, Some, None, refl}
use Rattle.std.specs.Prelude.{◌||◌, not}
use Rattle.cv_syntax_trees.specs.Children.{is_empty}
use Rattle.cv_syntax_trees.specs.Tree.{Tree}
use Rattle.cv_syntax_trees.specs.declared.sites.sort.Sort.{Sort}
use Rattle.cv_syntax_trees.specs.declared.sites.sort.Sort.TheVariants.{BelowParameter, OfType}
use Rattle.cv_syntax_trees.specs.sites.Sites.{Variable, first_site}
use Rattle.cv_scope_rules.specs.Made.{is_own_at}
use Rattle.cv_scene.specs.Large.{first_other_site, is_large}
use Rattle.cv_scene.specs.Scenes.{Scene, first_reading, is_chosen, is_queried, part_at}
use Rattle.cv_steps.specs.Changes.{change_at, only, without}
use Rattle.cv_steps.specs.Rows.{unless, unless_at, unlet_row_by}
use Rattle.cv_steps.specs.Steps.{Cost, Leads, Row, Zero}
use Rattle.cv_steps.specs.Unletting.{Assignment, is_listed, only_assignment, without_assignment}
use Rattle.cv_costs.specs.Collisions.{one_for_pairs, type_of}
use Rattle.cv_costs.specs.names.Naming.{first_naming, is_one_queried}
use Rattle.cv_costs.specs.wording.Changing.{changed_at}
use Rattle.cv_rule_birthday.specs.Comparing.{compared, first_uncompared, is_one_of}
use Rattle.cv_rule_birthday.specs.Row.{birthday_row_by}
use Rattle.cv_rule_birthday.specs.guess.Guessing.{compares_at, first_other_read, first_outside, without_guesses}
use Rattle.cv_rule_birthday.specs.guess.Row.{cost_at, row_by_reads, row_by_site, row_by_sort}
use Rattle.cv_rule_move.specs.merge.Merging.{Body, bodies, first_other, is_beside}
use Rattle.cv_rule_move.specs.merge.Row.{merge_row_by}
use Rattle.cv_settling_rules.specs.Candidates.{Birthday, Candidate, Guess, Merge, Unlet, Unnew}
use Rattle.cv_strategy_rules.specs.Demands.{Demands, IsGuess, IsLargeChoice, IsMergeable, IsUnlisted, IsUnused}
use Rattle.cv_strategy_rules.specs.Settling.{Settles}
use Rattle.cv_strategy_rules.proofs.Refuted.{conflict, unless_at_leads, unless_leads}

unless_holds : (b : Bool) (c p : ℕ) (rest : Row) (next : Tree) (cost : Cost) → unless b c p rest ≡ Leads next cost → b ≡ true
unless_holds true c p rest next cost e = refl
unless_holds false c p rest next cost e = absurd (conflict c p next cost e)

unless_at_none : (c : ℕ) (o : Option ℕ) (rest : Row) (next : Tree) (cost : Cost) → unless_at c o rest ≡ Leads next cost → o ≡ None
unless_at_none c None rest next cost e = refl
unless_at_none c (Some p) rest next cost e = absurd (conflict c p next cost e)

is_false : (b : Bool) → not b ≡ true → b ≡ false
is_false true e = cc
is_false false e = refl

neither_first : (b c : Bool) → not (b || c) ≡ true → b ≡ false
neither_first true c e = cc
neither_first false c e = refl

neither_second : (b c : Bool) → not (b || c) ≡ true → c ≡ false
neither_second true c e = cc
neither_second false c e = is_false c e

-- `unnew`
unused : (s : Scene) (x : ℕ) (next : Tree) (cost : Cost)
    → unless (is_chosen s x) 1 0 (unless (not (is_queried s x)) 2 0 (unless_at 2 (first_reading x 0 s.game) (Leads (without (only x) s.game) Zero))) ≡ Leads next cost → IsUnused s x
unused s x next cost e =
    let last : Row = unless_at 2 (first_reading x 0 s.game) (Leads (without (only x) s.game) Zero) in
    let middle : Row = unless (not (is_queried s x)) 2 0 last in
    let f : middle ≡ Leads next cost = unless_leads (is_chosen s x) 1 0 middle next cost e in
    let g : last ≡ Leads next cost = unless_leads (not (is_queried s x)) 2 0 last next cost f in
    record {
      chosen = unless_holds (is_chosen s x) 1 0 middle next cost e;
      unasked = is_false _ (unless_holds (not (is_queried s x)) 2 0 last next cost f);
      unread = unless_at_none 2 (first_reading x 0 s.game) (Leads (without (only x) s.game) Zero) next cost g;
    }

-- `unlet`
unlisted : (s : Scene) (x : ℕ) (o : Option Assignment) (next : Tree) (cost : Cost) → unlet_row_by s x o ≡ Leads next cost → IsUnlisted s x
unlisted s x None next cost e = absurd (conflict 1 0 next cost e)
unlisted s x (Some d) next cost e =
    let n : not (is_queried s x || is_listed x s.game) ≡ true = unless_holds (not (is_queried s x || is_listed x s.game)) 2 0 (Leads (without_assignment x d s.game) Zero) next cost e in
    record { unasked = neither_first _ _ n; unlisted = neither_second _ _ n }

-- `merge`
mergeable : (s : Scene) (p : ℕ) (bs : List Body) (next : Tree) (cost : Cost) → bodies p (part_at s.game p) ≡ bs → merge_row_by s p (part_at s.game p) bs ≡ Leads next cost → IsMergeable s p
mergeable s p [] next cost d e = absurd (conflict 1 0 next cost e)
mergeable s p (b ∷ others) next cost d e =
    let t : Tree = part_at s.game p in
    let last : Row = unless_at 3 (first_naming (is_own_at t) (is_beside p t b) 0 s.game) (Leads (change_at s.game p (λ old. b.process)) Zero) in
    let third : Row = unless (not (is_one_queried s (is_own_at t))) 3 0 last in
    let second : Row = unless_at 2 (first_other b.process others) third in
    let f : second ≡ Leads next cost = unless_leads (not (is_empty b.process)) 1 0 second next cost e in
    let g : third ≡ Leads next cost = unless_at_leads 2 (first_other b.process others) third next cost f in
    let h : last ≡ Leads next cost = unless_leads (not (is_one_queried s (is_own_at t))) 3 0 last next cost g in
    record {
      body = b;
      others = others;
      all = d;
      equal = unless_at_none 2 (first_other b.process others) third next cost f;
      own = unless_at_none 3 (first_naming (is_own_at t) (is_beside p t b) 0 s.game) (Leads (change_at s.game p (λ old. b.process)) Zero) next cost h;
    }

-- `birthday`
large : (s : Scene) (x : ℕ) (ps : List ℕ) (o : Option Variable) (next : Tree) (cost : Cost) → birthday_row_by s x ps o ≡ Leads next cost → IsLargeChoice s x
large s x ps None next cost e = absurd (conflict 2 0 next cost e)
large s x ps (Some v) next cost e =
    record { chosen = unless_at_none 2 (first_other_site (is_large s) x 0 s.game) (unless (is_large s (type_of v.sort)) 2 0 (Leads (changed_at (is_one_of ps) compared 0 s.game) (one_for_pairs s.declarations v.parameters (type_of v.sort)))) next cost e }

-- `guess`

pub record IsAlone (s : Scene) (x : ℕ) (places : List ℕ) : Type 0 where
  pub alone : first_other_read places x s.game ≡ None
  pub unasked : is_queried s x ≡ false

alone_by_reads : (s : Scene) (x : ℕ) (ps : List ℕ) (T : ℕ) (next : Tree) (cost : Cost) → row_by_reads s x ps T ≡ Leads next cost → IsAlone s x ps
alone_by_reads s x ps T next cost e =
    let leads : Row = Leads (without_guesses x ps s.game) (cost_at s ps T) in
    let last : Row = unless (not (is_queried s x)) 4 0 leads in
    record {
      alone = unless_at_none 3 (first_other_read ps x s.game) last next cost e;
      unasked = is_false _ (unless_holds (not (is_queried s x)) 4 0 leads next cost (unless_at_leads 3 (first_other_read ps x s.game) last next cost e));
    }

alone_by_sort : (s : Scene) (x : ℕ) (ps : List ℕ) (S : Sort) (next : Tree) (cost : Cost) → row_by_sort s x ps S ≡ Leads next cost → IsAlone s x ps
alone_by_sort s x ps (OfType T) next cost e = alone_by_reads s x ps T next cost (unless_leads (is_large s T) 2 0 (row_by_reads s x ps T) next cost e)
alone_by_sort s x ps (BelowParameter n) next cost e = absurd (conflict 2 0 next cost e)

alone_by_site : (s : Scene) (x : ℕ) (ps : List ℕ) (o : Option Variable) (next : Tree) (cost : Cost) → row_by_site s x ps o ≡ Leads next cost → IsAlone s x ps
alone_by_site s x ps None next cost e = absurd (conflict 2 0 next cost e)
alone_by_site s x ps (Some v) next cost e = alone_by_sort s x ps v.sort next cost e

guessed : (s : Scene) (x : ℕ) (ps : List ℕ) (next : Tree) (cost : Cost)
    → unless_at 1 (first_outside (compares_at s.game x) ps) (unless_at 2 (first_other_site (is_large s) x 0 s.game) (row_by_site s x ps (first_site x [] s.game))) ≡ Leads next cost → IsGuess s x ps
guessed s x ps next cost e =
    let last : Row = row_by_site s x ps (first_site x [] s.game) in
    let second : Row = unless_at 2 (first_other_site (is_large s) x 0 s.game) last in
    let f : second ≡ Leads next cost = unless_at_leads 1 (first_outside (compares_at s.game x) ps) second next cost e in
    let i : IsAlone s x ps = alone_by_site s x ps (first_site x [] s.game) next cost (unless_at_leads 2 (first_other_site (is_large s) x 0 s.game) last next cost f) in
    record {
      large = record { chosen = unless_at_none 2 (first_other_site (is_large s) x 0 s.game) last next cost f };
      alone = i.alone;
      unasked = i.unasked;
    }

pub demanded : (s : Scene) (c : Candidate) → Settles s c → Demands s c
demanded s (Merge p) t = mergeable s p (bodies p (part_at s.game p)) t.next t.legal.leads.cost refl t.legal.leads.row
demanded s (Unnew x) t = unused s x t.next t.legal.leads.cost t.legal.leads.row
demanded s (Unlet x) t = unlisted s x (only_assignment s.game x) t.next t.legal.leads.cost t.legal.leads.row
demanded s (Birthday x ps) t =
    large s x ps (first_site x [] s.game) t.next t.legal.leads.cost
    (unless_at_leads 1 (first_uncompared s.game x ps) (birthday_row_by s x ps (first_site x [] s.game)) t.next t.legal.leads.cost t.legal.leads.row)
demanded s (Guess x ps) t = guessed s x ps t.next t.legal.leads.cost t.legal.leads.row
demanded s c t = tt
