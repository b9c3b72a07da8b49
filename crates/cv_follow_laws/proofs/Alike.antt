-- Two reports on the same source: their courses, their names, and what they say of the queries.
use Rattle.std.proofs.Common.{◌≡◌, ℕ, ◌≤◌, Bool, true, false, List, [], ◌∷◌, ◌++◌, append-nil, drop, length, map, take, Option, Some, None, refl, ap, ap₂, sym, ◌∙◌, subst, arith}
use Rattle.std.proofs.lemmas.List.{take-append-drop}
use Rattle.cv_library.specs.Givens.{Given}
use Rattle.cv_pool.specs.names.Texts.{NoRepeat}
use Rattle.cv_syntax.specs.declared.work.File.{File}
use Rattle.cv_syntax_trees.specs.Tree.{Tree}
use Rattle.cv_meaning.specs.Queries.{queries_in}
use Rattle.cv_accept.specs.Accepted.{Content, most_pool}
use Rattle.cv_kernel.specs.Drawings.{DrawsAlong, told}
use Rattle.cv_kernel.specs.Proofs.{Transition}
use Rattle.cv_kernel.proofs.Drawn.{last_told, told_last}
use Rattle.cv_report.specs.declared.report.Report.{Report}
use Rattle.cv_follow.specs.Courses.{Course, DrawsThrough, IsCourse, names_behind}
use Rattle.cv_follow.specs.Scripts.{is_without_block, verdicts_of}
use Rattle.cv_kernel.specs.Followed.{known_to}
use Rattle.cv_follow.specs.Fillings.{StandsBy, has_word}
use Rattle.cv_follow.proofs.Courses as courses
use Rattle.cv_follow_laws.specs.Reports.{AreFound, AreFront, FollowsScript, IsReportOf, Proceeds, file_in}
use Rattle.cv_follow_laws.proofs.Names.{one_file, stand_once}
use Rattle.cv_follow_laws.proofs.Scripted.{front_is, one_tables, same_is}

module _ (c : Content) where
  -- a course of the content
  abbrev pub IsIts : Course → Type 0
  IsIts k = IsCourse (is_without_block c.script) c.declarations c.own c.game c.names k

  pub drawn_along : (k : Course) → IsIts k → DrawsAlong (is_without_block c.script) c.declarations (known_to c.own) c.own c.game (map told k.proof) c.names (names_behind c.names k.tables)
  drawn_along k w = courses.drawn_along (is_without_block c.script) c.declarations (known_to c.own) c.own c.game (map told k.proof) c.names k.tables w.drawn

  abbrev steps : List Transition → List Tree
  steps ts = map (λ (t : Transition). t.step) ts

  -- the steps of two courses stand in front of one list

  pub record HaveOneList (ts us : List Transition) : Type 0 where
    pub left : List Tree
    pub rest : List Tree
    pub one : steps ts ++ left ≡ steps us ++ rest

  found_list : (ts us : List Transition) → steps ts ≡ take (length ts) (steps us) → HaveOneList ts us
  found_list ts us e =
      let n : ℕ = length ts in
      record { left = drop n (steps us); rest = []; one = ap (λ xs. xs ++ drop n (steps us)) e ∙ (take-append-drop n (steps us) ∙ sym (append-nil (steps us))) }

  -- a script without the word is followed itself
  pub one_script : (script : List Tree) (r q : Report) (j k : Course) → has_word script ≡ false → (w : FollowsScript r c script j) (v : FollowsScript q c script k) → w.steps ≡ v.steps
  one_script script r q j k n w v =
      let one = subst (λ b. StandsBy b w.nodes script w.steps w.room) n w.stands in
      let two = subst (λ b. StandsBy b v.nodes script v.steps v.room) n v.stands in
      one.0 ∙ sym two.0

  script_list : (script : List Tree) (r q : Report) (j k : Course) (w : FollowsScript r c script j) (v : FollowsScript q c script k) → (b : Bool) → has_word script ≡ b → (has_word script ≡ true → steps j.proof ≡ take (length j.proof) (steps k.proof)) → HaveOneList j.proof k.proof
  script_list script r q j k w v true i e = found_list j.proof k.proof (e i)
  script_list script r q j k w v false i e = record { left = w.ends.left; rest = v.ends.left; one = sym w.ends.split ∙ (one_script script r q j k i w v ∙ v.ends.split) }

  pub one_list : (r q : Report) (j k : Course) (o : Option (List Tree)) (w : Proceeds r c j o) (v : Proceeds q c k o) → (AreFound o → steps j.proof ≡ take (length j.proof) (steps k.proof)) → HaveOneList j.proof k.proof
  one_list r q j k None w v e = found_list j.proof k.proof (e tt)
  one_list r q j k (Some script) w v e = script_list script r q j k w v (has_word script) refl e

  -- a course is fixed by its proof
  same_course : (j k : Course) → j.proof ≡ k.proof → j.last ≡ k.last → j.tables ≡ k.tables → j ≡ k
  same_course j k p l t = ap₂ (λ (ts : List Transition) (g : Tree). record { proof = ts; last = g; tables = j.tables }) p l ∙ ap (λ ms. record { proof = k.proof; last = k.last; tables = ms }) t

  module _ (u : NoRepeat c.names) (j k : Course) (w : IsIts j) (v : IsIts k) (l : HaveOneList j.proof k.proof) where
    -- a course with fewer steps is the front of the other
    pub front_taken : length j.proof ≤ length k.proof → j.proof ≡ take (length j.proof) k.proof
    front_taken few = front_is c u j.proof k.proof j.last k.last (names_behind c.names j.tables) (names_behind c.names k.tables) l.left l.rest w.leads v.leads (drawn_along j w) (drawn_along k v) l.one few

    -- with as many steps they are one
    one_proof : length j.proof ≡ length k.proof → j.proof ≡ k.proof
    one_proof same = (same_is c u j.proof k.proof j.last k.last (names_behind c.names j.tables) (names_behind c.names k.tables) l.left l.rest w.leads v.leads (drawn_along j w) (drawn_along k v) l.one same).0

    pub one_course : length j.proof ≡ length k.proof → j ≡ k
    one_course same =
        let p = one_proof same in
        let last : j.last ≡ k.last = sym (told_last c.declarations (known_to c.own) c.game j.proof j.last w.leads) ∙ (ap (λ ts. last_told c.game (map told ts)) p ∙ told_last c.declarations (known_to c.own) c.game k.proof k.last v.leads) in
        let tables = one_tables c u k.proof k.last j.tables k.tables v.leads (subst (λ ts. DrawsThrough (is_without_block c.script) c.declarations (known_to c.own) c.own c.game (map told ts) c.names j.tables) p w.drawn) v.drawn in
        same_course j k p last tables

-- the two reports hold one file

module _ (source : Given) (r q : Report) (f g : File) (w : IsReportOf source r f) (v : IsReportOf source q g) where
  abbrev pub content : Content
  content = file_in r f w.names

  pub file_is : content ≡ file_in q g v.names
  file_is = one_file most_pool source content (file_in q g v.names) w.file v.file

  pub apart : NoRepeat content.names
  apart = stand_once most_pool source content w.file

  pub its : IsIts content v.course
  its = subst (λ (c : Content). IsCourse (is_without_block c.script) c.declarations c.own c.game c.names v.course) (sym file_is) v.is

  pub proceeds : Proceeds q content v.course content.script
  proceeds = subst (λ (c : Content). Proceeds q c v.course c.script) (sym file_is) v.follows

  module _ (front : AreFront r w.course v.course) where
    list_of : HaveOneList content w.course.proof v.course.proof
    list_of = one_list content r q w.course v.course content.script w.follows proceeds front

    pub front_of : length w.course.proof ≤ length v.course.proof → w.course.proof ≡ take (length w.course.proof) v.course.proof
    front_of l = front_taken content apart w.course v.course w.is its list_of l

    pub course_is : length w.course.proof ≡ length v.course.proof → w.course ≡ v.course
    course_is l = one_course content apart w.course v.course w.is its list_of l

    pub names_are : length w.course.proof ≡ length v.course.proof → r.work.names ≡ q.work.names
    names_are l = w.drawn ∙ (ap₂ (λ ns (k : Course). names_behind ns k.tables) (ap (λ (c : Content). c.names) file_is) (course_is l) ∙ sym v.drawn)

    pub verdicts_are : length w.course.proof ≡ length v.course.proof → r.verdicts.items ≡ q.verdicts.items
    verdicts_are l = w.verdicts ∙ (ap₂ (λ (k : Course) (c : Content). verdicts_of k.proof (queries_in c.declarations)) (course_is l) file_is ∙ sym v.verdicts)
