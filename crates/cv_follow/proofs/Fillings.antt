-- Scripts with the word `simplify`, step by step.
use Rattle.std.proofs.Common.{◌≡◌, ℕ, zero, suc, get_or, ◌+◌, ◌<◌, ◌≤◌, ◌&&◌, ◌||◌, Bool, true, false, List, [], ◌∷◌, ◌++◌, length, drop, take, refl, ap, ap₂, sym, ◌∙◌, subst, arith, append-nil, Option, Some, None, Result, Ok, Err}
use Rattle.std.proofs.lemmas.Bool.{and_parts, or_parts}
use Rattle.std.proofs.lemmas.List.{append_assoc, map-append, map_more}
use Rattle.std.specs.List.{list_all}
use Rattle.std.specs.Prelude.{All, IfOk}
use Rattle.cv_accept.proofs.Blocks.{root_grown}
use Rattle.cv_bound.specs.costs.Sums.{no_sums}
use Rattle.cv_bound.specs.closings.Queries.{first_unclosed, numbers_of, sum_in}
use Rattle.cv_kernel.specs.Keeping.{StaysUpTo}
use Rattle.cv_kernel.specs.Proofs.{closed_by, nodes_along}
use Rattle.cv_kernel.specs.Reducings.{reducing_in}
use Rattle.cv_kernel.specs.Sequences.{IsPushed, Same, Stands, game_in, needed_for}
use Rattle.cv_kernel.specs.declared.error.PushError.{PushError}
use Rattle.cv_kernel.specs.declared.reducing.Reducing.{Reducing}
use Rattle.cv_kernel.proofs.Drawn.{block_before}
use Rattle.cv_kernel_crypto.specs.Applied.{DrawsNext}
use Rattle.cv_pool.specs.KindTree.{KindTree}
use Rattle.cv_pool.specs.PoolView.{Grows}
use Rattle.cv_scene_view.specs.Kept.{scene_of}
use Rattle.cv_script.specs.Views.{items_of_step}
use Rattle.cv_kernel.specs.declared.sequence.Sequence.{Sequence}
use Rattle.cv_parse.specs.Declaring.{IsBelow}
use Rattle.cv_report.specs.Lines.{Lines}
use Rattle.cv_report.specs.declared.report.Status.{Status}
use Rattle.cv_report.specs.declared.report.Status.TheVariants as status
use Rattle.cv_report.specs.declared.report.Which.{Which}
use Rattle.cv_report.specs.declared.stream.Stream.{Stream}
use Rattle.cv_report.specs.verdicts.Verdicts.{ended_with}
use Rattle.cv_script.specs.declared.steps.Step.{Step}
use Rattle.cv_script.specs.reader.Scripts.{trees_of}
use Rattle.cv_steps.specs.Sequences.{scene}
use Rattle.cv_syntax.specs.Classes.{queries}
use Rattle.cv_syntax.specs.Declarations.{declarations}
use Rattle.cv_syntax.specs.PoolTrees.{tree_at}
use Rattle.cv_syntax.specs.declared.work.Work.{Work}
use Rattle.cv_syntax_trees.specs.Declarations.{Declaration}
use Rattle.cv_syntax_trees.specs.Tree.{Tree}
use Rattle.cv_follow.specs.declared.searching.Tried.{Tried}
use Rattle.cv_follow.specs.declared.searching.Tried.TheVariants.{Accepted, Nothing, Passed, Refused}
use Rattle.cv_follow.specs.declared.walk.Walk.{Walk}
use Rattle.cv_follow.specs.Courses.{Course, IsReached, PutsCourse, PutsOn, course_at, leg_of, lines_in}
use Rattle.cv_follow.specs.Scripts.{Stops}
use Rattle.cv_kernel.specs.Followed.{known_to}
use Rattle.cv_follow.specs.Searches.{CutsBehind, HasFound, HasGrown, IsGivenBack, IsKept, IsMore, MayTry, PutsBehind}
use Rattle.cv_follow.specs.Walks.{IsStopped, IsWalk, course_of, stop_of}
use Rattle.cv_follow.specs.Fillings.{Advances, AdvancesBy, BreaksOff, EndsNext, Fills, GoesOn, IsBlockWalk, IsFilledWalk, IsFilling, IsTaken, SettlesAll, SettlesOne, StandsBy, TakesOne, ended_by, goes_on_behind, has_word, is_word, itself, nothing, settled, settles}
use Rattle.cv_follow.proofs.Coming.{more_before}
use Rattle.cv_follow.proofs.Courses.{lines_put, lines_same, puts_leg, puts_nothing, puts_then}
use Rattle.cv_follow.proofs.Following.{asked, split_here, stops_wider}
use Rattle.cv_follow.proofs.Gone.{course_is, grows_kept, reached_cut, reached_so_far, tables_many}
use Rattle.cv_follow.proofs.Left.{walk_ends, walk_out_of_memory, walk_stops}
use Rattle.cv_follow.proofs.Searches.{leg_found}
use Rattle.cv_follow.proofs.Tries.{found_again, found_back, found_more, found_none, game_stays, kept_both, may_again, steps_counted, stops_by}

-- what fills scripts fills them together

pub fills_both : (xs ys us vs : List Tree) → Fills xs us → Fills ys vs → Fills (xs ++ ys) (us ++ vs)
fills_both _ ys _ vs nothing w = w
fills_both _ ys _ vs (itself t xs us e d) w = itself t (xs ++ ys) (us ++ vs) e (fills_both xs ys us vs d w)
fills_both _ ys _ vs (settled t found xs us e f d) w =
    subst (Fills (t ∷ (xs ++ ys))) (sym (append_assoc found us vs)) (settled t found (xs ++ ys) (us ++ vs) e f (fills_both xs ys us vs d w))

pub fills_one : (t : Tree) → is_word t ≡ false → Fills (t ∷ []) (t ∷ [])
fills_one t e = itself t [] [] e nothing

pub fills_found : (t : Tree) (found : List Tree) → is_word t ≡ true → list_all settles found ≡ true → Fills (t ∷ []) found
fills_found t found e f = subst (Fills (t ∷ [])) (append-nil found) (settled t found [] [] e f nothing)

-- a script has the word where one of its steps is it
pub word_found : (trees : List KindTree) (script : List Step) (k : ℕ) (d : Step) → k < length script → is_word (tree_at trees (Some (get_or script k d).0)) ≡ true → has_word (trees_of trees script) ≡ true
word_found trees [] k d l e = absurd (omega arith)
word_found trees (s ∷ script) zero d l e = ap (λ (b : Bool). b || has_word (trees_of trees script)) e
word_found trees (s ∷ script) (suc k) d l e = ap (λ (b : Bool). is_word (tree_at trees (Some s.0)) || b) (word_found trees script k d (omega arith) e) ∙ or_true (is_word (tree_at trees (Some s.0)))
  where
    or_true : (b : Bool) → (b || true) ≡ true
    or_true true = refl
    or_true false = refl

-- what is left of a script may be filled by nothing more

pub record Rest (script : List Tree) : Type 0 where
  pub steps : List Tree
  pub fills : Fills script steps

rest_by : (t : Tree) (script : List Tree) (b : Bool) → is_word t ≡ b → Rest script → Rest (t ∷ script)
rest_by t script true e r = record { steps = r.steps; fills = settled t [] script r.steps e refl r.fills }
rest_by t script false e r = record { steps = t ∷ r.steps; fills = itself t script r.steps e r.fills }

pub rest_of : (script : List Tree) → Rest script
rest_of [] = record { steps = []; fills = nothing }
rest_of (t ∷ script) = rest_by t script (is_word t) refl (rest_of script)

-- a script without the word is filled by itself
pub fills_plain : (script steps : List Tree) → has_word script ≡ false → Fills script steps → steps ≡ script
fills_plain _ _ n nothing = refl
fills_plain _ _ n (itself t script steps e d) = ap (λ ts. t ∷ ts) (fills_plain script steps (or_parts (is_word t) (has_word script) n).1 d)
fills_plain _ _ n (settled t found script steps e f d) = absurd (let i = sym e ∙ (or_parts (is_word t) (has_word script) n).0 in cc)

-- a step is taken behind those that were found, or ends the run

module _ (start old new : Work) (first : Tree) (below : All (IsBelow (length start.pool.trees)) start.decls.list) (s t : Sequence) where
  pub takes_more : (other : Sequence) → MayTry old s → (step : Step) → step.0.0 < length old.pool.trees → (h : HasFound false start old first s) → (u : Unit {0}) → IsPushed old.pool old.decls new.pool.trees s t (tree_at old.pool.trees (Some step.0)) (Ok u) → Grows old.pool new.pool → Stands new.pool.trees new.decls t
      → length new.pool.trees ≤ length old.pool.trees + needed_for (scene_of old.pool old.decls s.game.root) (tree_at old.pool.trees (Some step.0)) (game_in new.pool.trees t) (items_of_step (tree_at old.pool.trees (Some step.0))) → take (length old.names) new.names ≡ old.names → new.decls ≡ old.decls
      → ((r : Reducing) → reducing_in (tree_at old.pool.trees (Some step.0)) ≡ Some r → DrawsNext old.names new.names old.decls.own (scene_of old.pool old.decls s.game.root) r.equivalence r.key (game_in new.pool.trees t)) → (reducing_in (tree_at old.pool.trees (Some step.0)) ≡ None → new.names ≡ old.names)
      → Same t other → other.arrays ≡ None → IsTaken start old new first s other h step.0 (tree_at old.pool.trees (Some step.0))
  takes_more other m step live h u p g stands few names decls draws alone same empty =
      let tree : Tree = tree_at old.pool.trees (Some step.0) in
      let more = found_more start old new first below s t h step.0 live other u m p g stands few names decls old.names (block_before old.names old.decls.own (game_in old.pool.trees s) (items_of_step tree)) draws alone same empty in
      record { more = more; taken = more.tree ∙ root_grown old.pool new.pool step.0 g live }

  pub takes_ends : MayTry old s → (step : Step) → (live : step.0.0 < length old.pool.trees) → (h : HasFound false start old first s) → (e : PushError) (end : Status) → IsPushed old.pool old.decls new.pool.trees s t (tree_at old.pool.trees (Some step.0)) (Err e) → stop_of e s.steps ≡ Some end → new.pool.trees ≡ old.pool.trees
      → EndsNext start old new first s h (tree_at old.pool.trees (Some step.0)) end
  takes_ends m step live h e end p i kept = stops_by start old new first below s t h step.0 live e m p kept end i

-- what comes of a step that is proposed to settle the game

pub settles_taken : (old new : Work) (step : Step) (s t : Sequence) (tree : Tree) → settles tree ≡ true → TakesOne old new step.0 tree s t None → SettlesOne old new s t (Accepted step false)
settles_taken old new step s t tree e w = (
  w.0,
  λ start first below h. (
      let d = w.1 start first below h in
      record { more = d.more; settling = ap settles d.taken ∙ e }
      ),
)

pub settles_passed : (old new : Work) (step : Step) (s t : Sequence) (tree : Tree) (which : Which) → settles tree ≡ true → TakesOne old new step.0 tree s t (Some (status.Limit which)) → SettlesOne old new s t (Passed which)
settles_passed old new step s t tree which e w = (w.0, λ start first below h. record { step = tree; settling = e; ends = w.1 start first below h })

-- a run ends by a step in the same way where nothing was taken before

module _ (start old mid new : Work) (first : Tree) (s t : Sequence) (h : HasFound false start old first s) (live : s.game.root.0 < length old.pool.trees) (k : IsKept old mid s t) where
  ends_before : (step : Tree) (end : Status) (i : HasFound false start mid first t) → i.found ≡ h.found → i.gone.followed.proof ≡ h.gone.followed.proof → EndsNext start mid new first t i step end → EndsNext start old new first s h step end
  ends_before step end i e p w =
      let ds : List Declaration = declarations start.pool.trees start.decls.list in
      let own : ℕ → Bool = known_to start.decls.own in
      subst (λ ts. Stops (length new.pool.trees) (length h.found) (scene ds own (game_in old.pool.trees s)) (closed_by ts) step end) p
      (subst (λ x. Stops (length new.pool.trees) (length h.found) (scene ds own x) (closed_by i.gone.followed.proof) step end) (game_stays old mid s t k.grows k.sequence live)
      (subst (λ (xs : List Tree). Stops (length new.pool.trees) (length xs) (scene ds own (game_in mid.pool.trees t)) (closed_by i.gone.followed.proof) step end) e w))

  ends_behind : (step : Tree) (end : Status) (i : HasFound false start mid first t) → i.found ≡ h.found → i.gone.followed.proof ≡ h.gone.followed.proof → EndsNext start old new first s h step end → EndsNext start mid new first t i step end
  ends_behind step end i e p w =
      let ds : List Declaration = declarations start.pool.trees start.decls.list in
      let own : ℕ → Bool = known_to start.decls.own in
      subst (λ ts. Stops (length new.pool.trees) (length i.found) (scene ds own (game_in mid.pool.trees t)) (closed_by ts) step end) (sym p)
      (subst (λ x. Stops (length new.pool.trees) (length i.found) (scene ds own x) (closed_by h.gone.followed.proof) step end) (sym (game_stays old mid s t k.grows k.sequence live))
      (subst (λ (xs : List Tree). Stops (length new.pool.trees) (length xs) (scene ds own (game_in old.pool.trees s)) (closed_by h.gone.followed.proof) step end) (sym e) w))

-- a pool grew before a try

pub settles_before : (old mid new : Work) (s t : Sequence) → s.game.root.0 < length old.pool.trees → IsKept old mid s s → (tried : Tried) → SettlesOne mid new s t tried → SettlesOne old new s t tried
unfolding more_before
settles_before old mid new s t live k (Accepted step moved) w = (
  w.0,
  λ start first below h. (
      let a = found_again start old mid first s s h live k in
      let d = w.1 start first below a.again in
      record { more = more_before start old mid new first s s t h a.again step.0 a.found a.proof a.tables d.more; settling = d.settling }
      ),
)
settles_before old mid new s t live k Refused w = kept_both old mid new s s t k w
settles_before old mid new s t live k Nothing w = kept_both old mid new s s t k w
settles_before old mid new s t live k (Passed which) w = (
  kept_both old mid new s s t k w.0,
  λ start first below h. (
      let a = found_again start old mid first s s h live k in
      let d = w.1 start first below a.again in
      record { step = d.step; settling = d.settling; ends = ends_before start old mid new first s s h live k d.step (status.Limit which) a.again a.found a.proof d.ends }
      ),
)

all_both : (p : Tree → Bool) (xs ys : List Tree) → list_all p xs ≡ true → list_all p ys ≡ true → list_all p (xs ++ ys) ≡ true
all_both p [] ys e f = f
all_both p (x ∷ xs) ys e f = let o = and_parts (p x) (list_all p xs) e in ap₂ ◌&&◌ o.0 (all_both p xs ys o.1 f)

-- steps stand behind others, and the lines of all were put

module _ (start old mid : Work) (first : Tree) (s t : Sequence) (h : HasFound false start old first s) (xs : List Tree) (t0 t1 : Option (List ℕ)) (f0 f1 : ℕ) (st0 st1 : Stream) (w : GoesOn start old mid first s t h xs (λ l m. PutsOn t0 t1 f0 f1 l m st0 st1)) where
  -- memory runs out behind them
  pub goes_broken : (new : Work) → HasGrown mid new → IsReached false start new first (λ c. PutsOn t0 t1 f0 f1 (lines_in start first (course_of h.gone)) (lines_in start first c) st0 st1)
  goes_broken new g = reached_so_far start mid first t w.next.gone new (λ c. PutsOn t0 t1 f0 f1 (lines_in start first (course_of h.gone)) (lines_in start first c) st0 st1) g w.puts

  -- nothing more is taken
  unfoldable pub goes_kept : (new : Work) (u : Sequence) → IsKept mid new t u → GoesOn start old new first s u h xs (λ l m. PutsOn t0 t1 f0 f1 l m st0 st1)
  goes_kept new u k =
      let a = found_again start mid new first t u w.next w.again.stands.live k in
      record {
        next = a.again;
        put = a.found ∙ w.put;
        again = may_again mid new t u w.again k;
        puts = subst (λ m. PutsOn t0 t1 f0 f1 (lines_in start first (course_of h.gone)) m st0 st1) (lines_same start first (course_of w.next.gone) (course_of a.again.gone) a.proof a.tables) w.puts;
      }

  module _ (mark : ℕ) (reach : length start.pool.trees ≤ mark) (new : Work) (t2 : Option (List ℕ)) (f2 : ℕ) (st2 : Stream) where
    -- a step more is taken, and games are given back
    pub goes_more : (next : Work) (u v : Sequence) (step : Step) (moved : Bool) (m : IsMore false start mid next first t u w.next step.0) → IsGivenBack mark next new u v → MayTry new v → PutsBehind (Accepted step moved) next u t1 t2 f1 f2 st1 st2 → GoesOn start old new first s v h (xs ++ m.step.step ∷ []) (λ l n. PutsOn t0 t2 f0 f2 l n st0 st2)
    goes_more next u v step moved m k may p =
        let b = found_back mark start next new first u v m.next reach k in
        record {
          next = b.again;
          put = b.found ∙ (m.put ∙ (ap (λ (zs : List Tree). zs ++ m.step.step ∷ []) w.put ∙ append_assoc h.found xs (m.step.step ∷ [])));
          again = may;
          puts = puts_leg t0 t1 t2 f0 f1 f2 (lines_in start first (course_of h.gone)) (lines_in start first (course_of w.next.gone)) (lines_in start first (course_of b.again.gone)) (leg_of m.step next.names) st0 st1 st2
              (lines_put start first (course_of w.next.gone) (course_of b.again.gone) m.step next.names (tables_many start mid first t w.next.gone) (b.proof ∙ m.proof) (b.tables ∙ m.tables)) w.puts (p (leg_of m.step next.names) (leg_found start mid next first t u w.next step m));
        }

    -- and where none was taken
    pub goes_back : (u : Sequence) → IsGivenBack mark mid new t u → MayTry new u → PutsBehind Refused mid t t1 t2 f1 f2 st1 st2 → GoesOn start old new first s u h xs (λ l m. PutsOn t0 t2 f0 f2 l m st0 st2)
    goes_back u k may p =
        let b = found_back mark start mid new first t u w.next reach k in
        record {
          next = b.again;
          put = b.found ∙ w.put;
          again = may;
          puts = puts_nothing t0 t1 t2 f0 f1 f2 (lines_in start first (course_of h.gone)) (lines_in start first (course_of w.next.gone)) (lines_in start first (course_of b.again.gone)) st0 st1 st2 (lines_same start first (course_of w.next.gone) (course_of b.again.gone) b.proof b.tables) w.puts p;
        }

    -- memory runs out when its lines are put
    pub goes_cut : (next : Work) (u : Sequence) (step : Step) (moved : Bool) (m : IsMore false start mid next first t u w.next step.0) → StaysUpTo mark next.pool new.pool → new.names ≡ next.names → new.decls ≡ next.decls → CutsBehind (Accepted step moved) next u t1 t2 f1 f2 st1 st2
        → IsReached false start new first (λ c. PutsOn t0 t2 f0 f2 (lines_in start first (course_of h.gone)) (lines_in start first c) st0 st2)
    goes_cut next u step moved m stays names decls p =
        let g = m.next.gone in
        reached_cut start new first (course_of w.next.gone) (course_of g) (course_is start mid first t w.next.gone) (course_is start next first u g) (grows_kept mark start.pool next.pool new.pool g.grows reach stays)
        (ap (take (length start.names)) names ∙ g.names) (decls ∙ g.decls) (leg_of m.step next.names) t0 t1 t2 f0 f1 f2 (lines_in start first (course_of h.gone)) st0 st1 st2
        (lines_put start first (course_of w.next.gone) (course_of g) m.step next.names (tables_many start mid first t w.next.gone) m.proof m.tables) w.puts (p (leg_of m.step next.names) (leg_found start mid next first t u w.next step m))

-- no step stands behind them yet
unfoldable pub goes_none : (start w : Work) (first : Tree) (s : Sequence) (h : HasFound false start w first s) (taken : Option (List ℕ)) (faults : ℕ) (stream : Stream) → MayTry w s → GoesOn start w w first s s h [] (λ l m. PutsOn taken taken faults faults l m stream stream)
goes_none start w first s h taken faults stream may = record { next = h; put = sym (append-nil h.found); again = may; puts = λ shows before old p. p }

-- try after try

module _ (mark : ℕ) (fn now mid : Work) (s0 s t : Sequence) (t0 t1 : Option (List ℕ)) (f0 f1 : ℕ) (st0 st1 : Stream) (far : SettlesAll mark fn now s0 s (λ l m. PutsOn t0 t1 f0 f1 l m st0 st1) None) where
  -- memory runs out in a try
  pub settles_broken : HasGrown now mid → BreaksOff mark fn mid s0 (λ l m. PutsOn t0 t1 f0 f1 l m st0 st1)
  settles_broken g start first below reach h =
      let w = far start first below reach h in
      goes_broken start fn now first s0 s h w.more t0 t1 f0 f1 st0 st1 w.on mid g

  -- no more is tried
  pub settles_last : (tried : Tried) → goes_on_behind tried ≡ false → SettlesOne now mid s t tried → SettlesAll mark fn mid s0 t (λ l m. PutsOn t0 t1 f0 f1 l m st0 st1) (ended_by tried)
  unfolding goes_kept
  settles_last (Accepted step moved) g d = absurd (cc)
  settles_last Refused g d = absurd (cc)
  settles_last Nothing g d = λ start first below reach h. (
      let w = far start first below reach h in
      record { more = w.more; on = goes_kept start fn now first s0 s h w.more t0 t1 f0 f1 st0 st1 w.on mid t d; settled = w.settled; ended = tt }
      )
  settles_last (Passed which) g d = λ start first below reach h. (
      let w = far start first below reach h in
      let live = w.on.again.stands.live in
      let a = found_again start now mid first s t w.on.next live d.0 in
      let e = d.1 start first below w.on.next in
      record {
        more = w.more;
        on = goes_kept start fn now first s0 s h w.more t0 t1 f0 f1 st0 st1 w.on mid t d.0;
        settled = w.settled;
        ended = record { step = e.step; settling = e.settling; ends = ends_behind start now mid mid first s t w.on.next live d.0 e.step (status.Limit which) a.again a.found a.proof e.ends };
      }
      )

  module _ (new : Work) (t2 : Option (List ℕ)) (f2 : ℕ) (st2 : Stream) where
    -- another one is
    pub settles_more : (u : Sequence) (tried : Tried) → goes_on_behind tried ≡ true → SettlesOne now mid s t tried → IsGivenBack mark mid new t u → MayTry new u → PutsBehind tried mid t t1 t2 f1 f2 st1 st2 → SettlesAll mark fn new s0 u (λ l m. PutsOn t0 t2 f0 f2 l m st0 st2) None
    settles_more u (Accepted step moved) g d k may p start first below reach h =
        let w = far start first below reach h in
        let one = d.1 start first below w.on.next in
        record {
          more = w.more ++ one.more.step.step ∷ [];
          on = goes_more start fn now first s0 s h w.more t0 t1 f0 f1 st0 st1 w.on mark reach new t2 f2 st2 mid t u step moved one.more k may p;
          settled = all_both settles w.more (one.more.step.step ∷ []) w.settled (ap (λ (b : Bool). b && true) one.settling);
          ended = tt;
        }
    settles_more u Refused g d k may p start first below reach h =
        let w = far start first below reach h in
        let a = goes_kept start fn now first s0 s h w.more t0 t1 f0 f1 st0 st1 w.on mid t d in
        record { more = w.more; on = goes_back start fn mid first s0 t h w.more t0 t1 f0 f1 st0 st1 a mark reach new t2 f2 st2 u k may p; settled = w.settled; ended = tt }
    settles_more u Nothing g d k may p start first below reach h = absurd (cc)
    settles_more u (Passed which) g d k may p start first below reach h = absurd (cc)

    -- memory runs out behind it
    pub settles_cut : (tried : Tried) → goes_on_behind tried ≡ true → SettlesOne now mid s t tried → StaysUpTo mark mid.pool new.pool → new.names ≡ mid.names → new.decls ≡ mid.decls → CutsBehind tried mid t t1 t2 f1 f2 st1 st2 → BreaksOff mark fn new s0 (λ l m. PutsOn t0 t2 f0 f2 l m st0 st2)
    settles_cut (Accepted step moved) g d stays names decls p start first below reach h =
        let w = far start first below reach h in
        let one = d.1 start first below w.on.next in
        goes_cut start fn now first s0 s h w.more t0 t1 f0 f1 st0 st1 w.on mark reach new t2 f2 st2 mid t step moved one.more stays names decls p
    settles_cut Refused g d stays names decls p start first below reach h = absurd p
    settles_cut Nothing g d stays names decls p start first below reach h = absurd p
    settles_cut (Passed which) g d stays names decls p start first below reach h = absurd p

pub settles_none : (mark : ℕ) (w : Work) (s : Sequence) (taken : Option (List ℕ)) (faults : ℕ) (stream : Stream) → MayTry w s → SettlesAll mark w w s s (λ l m. PutsOn taken taken faults faults l m stream stream) None
settles_none mark w s taken faults stream may start first below reach h = record { more = []; on = goes_none start w first s h taken faults stream may; settled = refl; ended = tt }

-- a step of a script, which may be the word

pub advances_word : {E : Type 0} (mark : ℕ) (old new : Work) (x : Tree) (s t : Sequence) (Puts : Lines → Lines → Type 0) (r : Result (Option Status) E) → is_word x ≡ true → IfOk r (SettlesAll mark old new s t Puts) → IfOk r (Advances mark old new x s t Puts)
advances_word mark old new x s t Puts (Ok o) e w = λ start first below reach h. subst (λ b. AdvancesBy b start old new first s t h x Puts o) (sym e) (w start first below reach h)
advances_word mark old new x s t Puts (Err f) e w = tt

module _ (mark : ℕ) (old mid : Work) (s t : Sequence) (x : Tree) (e : is_word x ≡ false) (may : MayTry old s) (t1 : Option (List ℕ)) (f1 : ℕ) (st1 : Stream) where
  pub advances_broken : HasGrown old mid → BreaksOff mark old mid s (λ l m. PutsOn t1 t1 f1 f1 l m st1 st1)
  advances_broken g start first below reach h = goes_broken start old old first s s h [] t1 t1 f1 f1 st1 st1 (goes_none start old first s h t1 f1 st1 may) mid g

  pub advances_ends : (step : Step) (end : Status) → TakesOne old mid step.0 x s t (Some end) → Advances mark old mid x s t (λ l m. PutsOn t1 t1 f1 f1 l m st1 st1) (Some end)
  unfolding goes_kept goes_none
  advances_ends step end w = λ start first below reach h. (
      let a = found_again start old mid first s t h may.stands.live w.0 in
      subst (λ b. AdvancesBy b start old mid first s t h x (λ l m. PutsOn t1 t1 f1 f1 l m st1 st1) (Some end)) (sym e)
      (goes_kept start old old first s s h [] t1 t1 f1 f1 st1 st1 (goes_none start old first s h t1 f1 st1 may) mid t w.0, ends_behind start old mid mid first s t h may.stands.live w.0 x end a.again a.found a.proof (w.1 start first below h))
      )

  module _ (new : Work) (t2 : Option (List ℕ)) (f2 : ℕ) (st2 : Stream) (step : Step) (w : TakesOne old mid step.0 x s t None) where
    pub advances_takes : (u : Sequence) → IsGivenBack mark mid new t u → MayTry new u → PutsBehind (Accepted step false) mid t t1 t2 f1 f2 st1 st2 → Advances mark old new x s u (λ l m. PutsOn t1 t2 f1 f2 l m st1 st2) None
    unfolding goes_none
    advances_takes u k again p = λ start first below reach h. (
        let d = w.1 start first below h in
        let a = goes_more start old old first s s h [] t1 t1 f1 f1 st1 st1 (goes_none start old first s h t1 f1 st1 may) mark reach new t2 f2 st2 mid t u step false d.more k again p in
        subst (λ b. AdvancesBy b start old new first s u h x (λ l m. PutsOn t1 t2 f1 f2 l m st1 st2) None) (sym e)
        (subst (λ y. GoesOn start old new first s u h (y ∷ []) (λ l m. PutsOn t1 t2 f1 f2 l m st1 st2)) d.taken a)
        )

    pub advances_cut : StaysUpTo mark mid.pool new.pool → new.names ≡ mid.names → new.decls ≡ mid.decls → CutsBehind (Accepted step false) mid t t1 t2 f1 f2 st1 st2 → BreaksOff mark old new s (λ l m. PutsOn t1 t2 f1 f2 l m st1 st2)
    unfolding goes_none
    advances_cut stays names decls p start first below reach h =
        let d = w.1 start first below h in
        goes_cut start old old first s s h [] t1 t1 f1 f1 st1 st1 (goes_none start old first s h t1 f1 st1 may) mark reach new t2 f2 st2 mid t step false d.more stays names decls p

-- a script is followed, step by step

pub filling_none : (w : Work) (first : Tree) (s : Sequence) (taken : Option (List ℕ)) (faults : ℕ) (stream : Stream) → s.steps ≡ 0 → s.sum ≡ no_sums → s.closed ≡ [] → game_in w.pool.trees s ≡ first → IsFilling w w first [] s (PutsCourse taken taken faults faults w first stream stream)
filling_none w first s taken faults stream n m k g =
    let a = found_none {free = false} w first s n m k g in
    record {
      found = a.again;
      fills = subst (Fills []) (sym a.found) nothing;
      puts = subst (λ l. PutsOn taken taken faults faults (lines_in w first (course_at first)) l stream stream) (lines_same w first (course_at first) (course_of a.again.gone) a.proof a.tables) (λ shows before old p. p);
    }

module _ (start old new : Work) (first : Tree) (front : List Tree) (x : Tree) (s t : Sequence) (t0 t1 t2 : Option (List ℕ)) (f0 f1 f2 : ℕ) (st0 st1 st2 : Stream) (h : IsFilling start old first front s (PutsCourse t0 t1 f0 f1 start first st0 st1)) where
  abbrev Puts : Lines → Lines → Type 0
  Puts l m = PutsOn t1 t2 f1 f2 l m st1 st2

  puts_on : (c : Course) → Puts (lines_in start first (course_of h.found.gone)) (lines_in start first c) → PutsCourse t0 t2 f0 f2 start first st0 st2 c
  puts_on c p = puts_then t0 t1 t2 f0 f1 f2 (lines_in start first (course_at first)) (lines_in start first (course_of h.found.gone)) (lines_in start first c) st0 st1 st2 h.puts p

  pub filling_more : (b : Bool) → is_word x ≡ b → AdvancesBy b start old new first s t h.found x Puts None → IsFilling start new first (front ++ x ∷ []) t (PutsCourse t0 t2 f0 f2 start first st0 st2)
  filling_more true e d = record {
    found = d.on.next;
    fills = subst (Fills (front ++ x ∷ [])) (sym d.on.put) (fills_both front (x ∷ []) h.found.found d.more h.fills (fills_found x d.more e d.settled));
    puts = puts_on (course_of d.on.next.gone) d.on.puts;
  }
  filling_more false e d = record {
    found = d.next;
    fills = subst (Fills (front ++ x ∷ [])) (sym d.put) (fills_both front (x ∷ []) h.found.found (x ∷ []) h.fills (fills_one x e));
    puts = puts_on (course_of d.next.gone) d.puts;
  }

  -- memory runs out
  pub filling_broken : (left : List Tree) (w : Walk) → IsReached false start new first (λ c. Puts (lines_in start first (course_of h.found.gone)) (lines_in start first c)) → w.status ≡ status.Memory → w.verdicts.items ≡ [] → IsFilledWalk start new first (front ++ left) (asked start) (PutsCourse t0 t2 f0 f2 start first st0 st2) w
  filling_broken left w r a b =
      let rest = rest_of (front ++ left) in
      record {
        steps = rest.steps;
        fills = rest.fills;
        walk = walk_out_of_memory (length new.pool.trees) start new first rest.steps (asked start) (PutsCourse t0 t2 f0 f2 start first st0 st2) w
            (record { course = r.course; is = r.is; grows = r.grows; names = r.names; decls = r.decls; puts = puts_on r.course r.puts }) a b;
      }

  -- the next step, of the script or found in the place of the word, ends the run
  filled_so_far : (script left : List Tree) (step : Tree) (end : Status) (w : Walk) (i : HasFound false start new first t) → Fills script (i.found ++ step ∷ left) → EndsNext start new new first t i step end → PutsCourse t0 t2 f0 f2 start first st0 st2 (course_of i.gone) → IsStopped (sum_in t.closed) (queries new.decls.list) end w
      → IsFilledWalk start new first script (asked start) (PutsCourse t0 t2 f0 f2 start first st0 st2) w
  filled_so_far script left step end w i f e p v =
      let ds : List Declaration = declarations start.pool.trees start.decls.list in
      let own : ℕ → Bool = known_to start.decls.own in
      let wide = stops_wider (length new.pool.trees) (length new.pool.trees + nodes_along ds own first i.gone.followed.proof) (length i.found) (scene ds own (game_in new.pool.trees t)) (closed_by i.gone.followed.proof) step end (omega arith) e in
      let here = subst (λ n. Stops (length new.pool.trees + nodes_along ds own first i.gone.followed.proof) n (scene ds own (game_in new.pool.trees t)) (closed_by i.gone.followed.proof) step end) (sym (steps_counted start new first t i)) wide in
      record { steps = i.found ++ step ∷ left; fills = f; walk = walk_stops start new first i.found t i.gone (PutsCourse t0 t2 f0 f2 start first st0 st2) p w (i.found ++ step ∷ left) step left end refl here v }

  pub filling_ends : (left : List Tree) (end : Status) (w : Walk) (b : Bool) → is_word x ≡ b → AdvancesBy b start old new first s t h.found x Puts (Some end) → IsStopped (sum_in t.closed) (queries new.decls.list) end w
      → IsFilledWalk start new first (front ++ x ∷ left) (asked start) (PutsCourse t0 t2 f0 f2 start first st0 st2) w
  filling_ends left end w true e d v =
      let rest = rest_of left in
      let more : List Tree = d.more ++ d.ended.step ∷ [] in
      let one = fills_found x more e (all_both settles d.more (d.ended.step ∷ []) d.settled (ap (λ (c : Bool). c && true) d.ended.settling)) in
      let all = fills_both front (x ∷ left) h.found.found (more ++ rest.steps) h.fills (fills_both (x ∷ []) left more rest.steps one rest.fills) in
      let same : h.found.found ++ (more ++ rest.steps) ≡ d.on.next.found ++ d.ended.step ∷ rest.steps =
      ap (λ (xs : List Tree). h.found.found ++ xs) (append_assoc d.more (d.ended.step ∷ []) rest.steps)
      ∙ (sym (append_assoc h.found.found d.more (d.ended.step ∷ rest.steps)) ∙ ap (λ (xs : List Tree). xs ++ d.ended.step ∷ rest.steps) (sym d.on.put)) in
      filled_so_far (front ++ x ∷ left) rest.steps d.ended.step end w d.on.next (subst (Fills (front ++ x ∷ left)) same all) d.ended.ends (puts_on (course_of d.on.next.gone) d.on.puts) v
  filling_ends left end w false e d v =
      let rest = rest_of left in
      let g = d.0 in
      let all = fills_both front (x ∷ left) h.found.found (x ∷ rest.steps) h.fills (itself x left rest.steps e rest.fills) in
      filled_so_far (front ++ x ∷ left) rest.steps x end w g.next (subst (λ (xs : List Tree). Fills (front ++ x ∷ left) (xs ++ x ∷ rest.steps)) (sym (g.put ∙ append-nil h.found.found)) all) d.1 (puts_on (course_of g.next.gone) g.puts) v

-- step after step of a list

module _ (fn now new : Work) (first : Tree) (script : List Step) (live : All (λ s. s.0.0 < length fn.pool.trees) script) (k : ℕ) (d : Step) (l : k < length script) (s t : Sequence) (t0 t1 t2 : Option (List ℕ)) (f0 f1 f2 : ℕ) (st0 st1 st2 : Stream) (h : IsFilling fn now first (trees_of fn.pool.trees (take k script)) s (PutsCourse t0 t1 f0 f1 fn first st0 st1))
    (below : All (IsBelow (length fn.pool.trees)) fn.decls.list) (mark : ℕ) (reach : length fn.pool.trees ≤ mark) where
  abbrev tree_of : Step → Tree
  tree_of x = tree_at fn.pool.trees (Some x.0)

  abbrev here : Tree
  here = tree_at now.pool.trees (Some (get_or script k d).0)

  abbrev front : List Tree
  front = trees_of fn.pool.trees (take k script)

  abbrev left : List Tree
  left = trees_of fn.pool.trees (drop (k + 1) script)

  same : here ≡ tree_of (get_or script k d)
  same = root_grown fn.pool now.pool (get_or script k d).0 h.found.gone.grows (live k d l)

  all : front ++ here ∷ left ≡ trees_of fn.pool.trees script
  all = ap (λ y. front ++ y ∷ left) same ∙ sym (ap (trees_of fn.pool.trees) (split_here script k d l) ∙ map-append tree_of (take k script) (get_or script k d ∷ drop (k + 1) script))

  pub fills_step : Advances mark now new here s t (λ l m. PutsOn t1 t2 f1 f2 l m st1 st2) None → IsFilling fn new first (trees_of fn.pool.trees (take (k + 1) script)) t (PutsCourse t0 t2 f0 f2 fn first st0 st2)
  fills_step w =
      subst (λ ts. IsFilling fn new first ts t (PutsCourse t0 t2 f0 f2 fn first st0 st2)) (ap (λ y. front ++ y ∷ []) same ∙ sym (map_more tree_of script k d l))
      (filling_more fn now new first front here s t t0 t1 t2 f0 f1 f2 st0 st1 st2 h (is_word here) refl (w fn first below reach h.found))

  pub fills_stop : (end : Status) (w : Walk) → Advances mark now new here s t (λ l m. PutsOn t1 t2 f1 f2 l m st1 st2) (Some end) → IsStopped (sum_in t.closed) (queries new.decls.list) end w → IsFilledWalk fn new first (trees_of fn.pool.trees script) (asked fn) (PutsCourse t0 t2 f0 f2 fn first st0 st2) w
  fills_stop end w e v =
      subst (λ ts. IsFilledWalk fn new first ts (asked fn) (PutsCourse t0 t2 f0 f2 fn first st0 st2) w) all
      (filling_ends fn now new first front here s t t0 t1 t2 f0 f1 f2 st0 st1 st2 h left end w (is_word here) refl (e fn first below reach h.found) v)

  pub fills_broken : (w : Walk) → BreaksOff mark now new s (λ l m. PutsOn t1 t2 f1 f2 l m st1 st2) → w.status ≡ status.Memory → w.verdicts.items ≡ [] → IsFilledWalk fn new first (trees_of fn.pool.trees script) (asked fn) (PutsCourse t0 t2 f0 f2 fn first st0 st2) w
  fills_broken w r a b =
      subst (λ ts. IsFilledWalk fn new first ts (asked fn) (PutsCourse t0 t2 f0 f2 fn first st0 st2) w) all
      (filling_broken fn now new first front here s t t0 t1 t2 f0 f1 f2 st0 st1 st2 h (here ∷ left) w (r fn first below reach h.found) a b)

-- all steps were taken
pub filled_all : (start now : Work) (first : Tree) (s : Sequence) (so_far script : List Tree) (Puts : Course → Type 0) (h : IsFilling start now first so_far s Puts) (w : Walk) → so_far ≡ script → IsStopped (sum_in s.closed) (queries now.decls.list) (ended_with (first_unclosed (numbers_of s.closed) (length (queries now.decls.list)))) w
    → IsFilledWalk start now first script (asked start) Puts w
filled_all start now first s so_far script Puts h w e v = record {
  steps = h.found.found;
  fills = subst (λ ts. Fills ts h.found.found) e h.fills;
  walk = walk_ends start now first h.found.found s h.found.gone Puts h.puts w h.found.found refl v;
}

-- whether a script has the word or not

pub block_filled : (start now : Work) (first : Tree) (script : List Tree) (Puts : Course → Type 0) (w : Walk) → has_word script ≡ true → IsFilledWalk start now first script (asked start) Puts w → IsBlockWalk (length start.pool.trees) start now first script (asked start) Puts w
block_filled start now first script Puts w e h = record {
  steps = h.steps;
  room = length now.pool.trees;
  stands = subst (λ b. StandsBy b (length start.pool.trees) script h.steps (length now.pool.trees)) (sym e) h.fills;
  walk = h.walk;
}

pub block_plain : (nodes : ℕ) (start now : Work) (first : Tree) (script queries : List Tree) (Puts : Course → Type 0) (w : Walk) → has_word script ≡ false → IsWalk nodes start now first script queries Puts w → IsBlockWalk nodes start now first script queries Puts w
block_plain nodes start now first script queries Puts w e h = record {
  steps = script;
  room = nodes;
  stands = subst (λ b. StandsBy b nodes script script nodes) (sym e) (refl, refl);
  walk = h;
}
