-- What was put of a report's lines, and what comes behind it.
use Rattle.std.proofs.Common.{◌≡◌, ℕ, ◌+◌, ◌≤◌, Bool, true, false, cond, List, [], ◌∷◌, ◌++◌, length, refl, ap, sym, subst, ◌∙◌, Option, Some, None, IsSome, append_assoc, append-nil, arith, codes, ◌⊎◌, inl, inr}
use Rattle.std.specs.Prelude.{is_some}
use Rattle.cv_costs.specs.Factors.{parameters_in}
use Rattle.cv_outside.specs.Causes.{Rose}
use Rattle.cv_pool.specs.declared.node.NodeId.{NodeId}
use Rattle.cv_print.specs.Games.{game_text}
use Rattle.cv_syntax.specs.PoolTrees.{tree_at}
use Rattle.cv_syntax.specs.declared.work.Work.{Work}
use Rattle.cv_report.specs.declared.flow.Flow.{Flow}
use Rattle.cv_report.specs.declared.flow.Flow.TheVariants.{Failed, Going, Spent}
use Rattle.cv_report.specs.declared.stream.Stream.{Stream}
use Rattle.cv_report.specs.Lines.{Leg, Lines, game_after, games_along, leg_text, legs_text, lines_text, shown_text, with_leg}
use Rattle.cv_report.specs.Streams.{IsClosed, IsPut, Streams, lines_at}
use Rattle.cv_report.specs.Writing.{TakesAll, TakesFront}
use Rattle.cv_report.proofs.Takes.{all_then, front_all, front_more, front_then, takes_none}

-- nothing is a front of each text
pub takes_nothing : (before : Option (List ℕ)) (text : List ℕ) → TakesFront before before text
takes_nothing None text = tt
takes_nothing (Some first) text = (0, sym (append-nil first))

-- a fault that comes later
later_rose : (a b c : ℕ) → a ≤ b → Rose b c → Rose a c
later_rose a b c l r = omega arith

-- a text behind one that was put
put_then : (f : Flow) (before middle now : Option (List ℕ)) (old mid new : ℕ) (xs ys : List ℕ) → (IsSome now → IsSome middle) → old ≤ mid → TakesAll before middle xs → IsPut f middle now mid new ys → IsPut f before now old new (xs ++ ys)
put_then Going before middle now old mid new xs ys t l h p = all_then before middle now xs ys t h p
put_then Failed before middle now old mid new xs ys t l h p = (front_then before middle now xs ys t h p.0, later_rose old mid new l p.1)
put_then Spent before middle now old mid new xs ys t l h p = front_then before middle now xs ys t h p

-- a front of a text is one of what goes on
put_more : (f : Flow) (before now : Option (List ℕ)) (old new : ℕ) (xs ys : List ℕ) → (f ≡ Going → ⊥) → IsPut f before now old new xs → IsPut f before now old new (xs ++ ys)
put_more Going before now old new xs ys n p = absurd (n refl)
put_more Failed before now old new xs ys n p = (front_more before now xs ys p.0, p.1)
put_more Spent before now old new xs ys n p = front_more before now xs ys p

put_front : (f : Flow) (before now : Option (List ℕ)) (old new : ℕ) (xs : List ℕ) → IsPut f before now old new xs → TakesFront before now xs
put_front Going before now old new xs p = front_all before now xs p
put_front Failed before now old new xs p = p.0
put_front Spent before now old new xs p = p

-- memory may run out for what is kept besides
kept_put : (f g : Flow) (before now : Option (List ℕ)) (old new : ℕ) (xs : List ℕ) → (g ≡ f) ⊎ (g ≡ Spent) → IsPut f before now old new xs → IsPut g before now old new xs
kept_put f g before now old new xs (inl e) p = subst (λ h. IsPut h before now old new xs) (sym e) p
kept_put f g before now old new xs (inr e) p = subst (λ h. IsPut h before now old new xs) (sym e) (put_front f before now old new xs p)

kept_going : (f g : Flow) → (g ≡ f) ⊎ (g ≡ Spent) → g ≡ Going → f ≡ Going
kept_going f g (inl e) h = sym e ∙ h
kept_going f g (inr e) h = let both : Spent ≡ Going = sym e ∙ h in absurd (cc)

-- a step more

legs_put : (order : List ℕ) (k g : ℕ) (es : List Leg) (e : Leg) → legs_text order k g (es ++ e ∷ []) ≡ legs_text order k g es ++ leg_text order (length es + k) (games_along g es) e
unfolding legs_text games_along
legs_put order k g [] e = append-nil (leg_text order k g e) ∙ ap (λ m. leg_text order m g e) (omega arith)
legs_put order k g (x ∷ xs) e =
    ap (λ t. leg_text order k g x ++ t) (legs_put order (k + 1) (game_after g x) xs e
    ∙ ap (λ m. legs_text order (k + 1) (game_after g x) xs ++ leg_text order m (games_along (game_after g x) xs) e) (omega arith))
    ∙ sym (append_assoc (leg_text order k g x) (legs_text order (k + 1) (game_after g x) xs) (leg_text order (length (x ∷ xs) + k) (games_along (game_after g x) xs) e))

along_put : (g : ℕ) (es : List Leg) (e : Leg) → games_along g (es ++ e ∷ []) ≡ game_after (games_along g es) e
unfolding games_along
along_put g [] e = refl
along_put g (x ∷ xs) e = along_put (game_after g x) xs e

length_put : (es : List Leg) (e : Leg) → length (es ++ e ∷ []) ≡ length es + 1
length_put [] e = refl
length_put (x ∷ xs) e = let r = length_put xs e in omega arith

lines_put : (l : Lines) (e : Leg) → lines_text (with_leg l e) ≡ lines_text l ++ leg_text l.order (length l.legs + 1) (games_along 2 l.legs) e
lines_put l e =
    let a = codes "game 1\n" in
    let b = game_text l.names l.game in
    let c = legs_text l.order 1 2 l.legs in
    let d = leg_text l.order (length l.legs + 1) (games_along 2 l.legs) e in
    ap (λ t. a ++ b ++ t) (legs_put l.order 1 2 l.legs e) ∙ sym (append_assoc (a ++ b) c d)

-- where no more is put
pub left_is_put : (s : Stream) (shows : Bool) (l : Lines) (e : Leg) (before now : Option (List ℕ)) (old new : ℕ) → (s.flow ≡ Going → s.shows ≡ false) → Streams shows l before now old new s → IsPut s.flow before now old new (shown_text shows (with_leg l e))
left_is_put s true l e before now old new n h =
    subst (IsPut s.flow before now old new) (sym (lines_put l e))
    (put_more s.flow before now old new (lines_text l) (leg_text l.order (length l.legs + 1) (games_along 2 l.legs) e) (λ f. let both : true ≡ false = sym h.shown ∙ n f in cc) h.put)
left_is_put s false l e before now old new n h = h.put

pub leg_is_put : (s : Stream) (f : Flow) (shows : Bool) (l : Lines) (e : Leg) (before middle now : Option (List ℕ)) (old mid new : ℕ) → s.flow ≡ Going → s.shows ≡ true → (IsSome now → IsSome middle)
    → IsPut f middle now mid new (leg_text s.order.items (s.steps + 1) s.game e) → Streams shows l before middle old mid s → IsPut f before now old new (shown_text shows (with_leg l e))
leg_is_put s f true l e before middle now old mid new g m tells p h =
    let whole : TakesAll before middle (lines_text l) = subst (λ x. IsPut x before middle old mid (lines_text l)) g h.put in
    let same : leg_text s.order.items (s.steps + 1) s.game e ≡ leg_text l.order (length l.legs + 1) (games_along 2 l.legs) e =
    ap (λ o. leg_text o (s.steps + 1) s.game e) (h.order g refl) ∙ (ap (λ k. leg_text l.order (k + 1) s.game e) h.steps ∙ ap (λ k. leg_text l.order (length l.legs + 1) k e) h.game) in
    subst (IsPut f before now old new) (ap (λ t. lines_text l ++ t) same ∙ sym (lines_put l e))
    (put_then f before middle now old mid new (lines_text l) (leg_text s.order.items (s.steps + 1) s.game e) tells h.later whole p)
leg_is_put s f false l e before middle now old mid new g m tells p h = let both : true ≡ false = sym m ∙ h.shown in absurd (cc)

-- a step adds one game at most
pub few_games : (g k h : ℕ) (e : Leg) → h ≡ game_after g e → g ≤ k + 2 → h ≤ k + 1 + 2
few_games g k h e i l = go (is_some e.next) i
  where
    go : (b : Bool) → h ≡ cond b (g + 1) g → h ≤ k + 1 + 2
    go true j = omega arith
    go false j = omega arith

-- a step more, where its lines were put
pub streams_more : (s t : Stream) (f : Flow) (shows : Bool) (l : Lines) (e : Leg) (before middle now : Option (List ℕ)) (old mid new : ℕ)
    → mid ≤ new → (f ≡ Going → s.flow ≡ Going) → (t.flow ≡ f) ⊎ (t.flow ≡ Spent) → t.shows ≡ s.shows → t.order ≡ s.order → t.steps ≡ s.steps + 1 → t.game ≡ game_after s.game e
    → IsPut f before now old new (shown_text shows (with_leg l e)) → Streams shows l before middle old mid s → Streams shows (with_leg l e) before now old new t
streams_more s t f shows l e before middle now old mid new later going flow showing order steps game put h = record {
  later = (let a = h.later in omega arith);
  shown = showing ∙ h.shown;
  order = λ g w. ap (λ o. o.items) order ∙ h.order (going (kept_going f t.flow flow g)) w;
  steps = steps ∙ (ap (λ k. k + 1) h.steps ∙ sym (length_put l.legs e));
  game = game ∙ (ap (λ g. game_after g e) h.game ∙ sym (along_put 2 l.legs e));
  put = kept_put f t.flow before now old new (shown_text shows (with_leg l e)) flow put;
}

-- the first game

pub begins : (s : Stream) (shows : Bool) (w : Work) (game : NodeId) (before now : Option (List ℕ)) (old new : ℕ) → shows ≡ s.shows → s.order.items ≡ parameters_in w.decls.list → s.steps ≡ 0 → s.game ≡ 2 → old ≤ new
    → IsPut s.flow before now old new (codes "game 1\n" ++ game_text w.names (tree_at w.pool.trees (Some game))) → s.shows ≡ true → Streams shows (lines_at w game) before now old new s
unfolding games_along legs_text
begins s shows w game before now old new same order steps number later put showing = record {
  later = later;
  shown = sym same;
  order = λ g m. order;
  steps = steps;
  game = number;
  put = subst (λ b. IsPut s.flow before now old new (shown_text b (lines_at w game))) (sym (same ∙ showing)) (subst (IsPut s.flow before now old new) (sym (append-nil (codes "game 1\n" ++ game_text w.names (tree_at w.pool.trees (Some game))))) put);
}

-- no memory for the order of the parameters
pub begins_spent : (s : Stream) (shows : Bool) (w : Work) (game : NodeId) (before : Option (List ℕ)) (old : ℕ) → shows ≡ s.shows → s.flow ≡ Spent → s.steps ≡ 0 → s.game ≡ 2 → Streams shows (lines_at w game) before before old old s
unfolding games_along
begins_spent s shows w game before old same flow steps number = record {
  later = omega arith;
  shown = sym same;
  order = λ g m. let both : Spent ≡ Going = sym flow ∙ g in absurd (cc);
  steps = steps;
  game = number;
  put = subst (λ f. IsPut f before before old old (shown_text shows (lines_at w game))) (sym flow) (takes_nothing before (shown_text shows (lines_at w game)));
}

-- nothing is to be shown
pub begins_silent : (s : Stream) (shows : Bool) (w : Work) (game : NodeId) (before : Option (List ℕ)) (old : ℕ) → shows ≡ false → s.shows ≡ false → s.flow ≡ Going → s.steps ≡ 0 → s.game ≡ 2 → Streams shows (lines_at w game) before before old old s
unfolding games_along
begins_silent s shows w game before old none showing flow steps number = record {
  later = omega arith;
  shown = showing ∙ sym none;
  order = λ g m. let both : false ≡ true = sym none ∙ m in absurd (cc);
  steps = steps;
  game = number;
  put = subst (λ b. IsPut s.flow before before old old (shown_text b (lines_at w game))) (sym none) (subst (λ f. IsPut f before before old old []) (sym flow) (takes_none before));
}

-- a text behind lines

pub closed_going : (f : Flow) (before middle now : Option (List ℕ)) (old mid new : ℕ) (lines text : List ℕ) → (IsSome now → IsSome middle) → (f ≡ Spent → now ≡ middle) → old ≤ mid → TakesAll before middle lines → IsPut f middle now mid new text → IsClosed f before now old new lines text
closed_going Going before middle now old mid new lines text t n l h p = all_then before middle now lines text t h p
closed_going Failed before middle now old mid new lines text t n l h p = (front_then before middle now lines text t h p.0, later_rose old mid new l p.1)
closed_going Spent before middle now old mid new lines text t n l h p = subst (λ x. TakesFront before x lines) (sym (n refl)) (front_all before middle lines h)

pub closed_stays : (f : Flow) (before now : Option (List ℕ)) (old new : ℕ) (lines text : List ℕ) → (f ≡ Going → ⊥) → IsPut f before now old new lines → IsClosed f before now old new lines text
closed_stays Going before now old new lines text n p = absurd (n refl)
closed_stays Failed before now old new lines text n p = (front_more before now lines text p.0, p.1)
closed_stays Spent before now old new lines text n p = p

pub ruleset puts = (takes_nothing, front_all)
