-- What stays from the opening of an epoch to its end: the shapes of what was unreclaimed, and their line marks.
use Rattle.std.proofs.Common.{◌≡◌, ℕ, sym, ap, subst, ◌∙◌, arith}
use Rattle.std.specs.Prelude.{Some, IsTrue}
use Rattle.lxr_layout.specs.declared.Name.{Name}
use Rattle.lxr_graph.specs.Names.{has}
use Rattle.lxr_graph.specs.State.{Graph, Object, object_at}
use Rattle.lxr_image.specs.Tables.{Tables}
use Rattle.lxr_image.specs.Reads.{granule_of}
use Rattle.lxr_image.specs.Image.{granules_of}
use Rattle.lxr_model.specs.Moments.{Moment}
use Rattle.lxr_model_counting.specs.Following.{FollowsPause, HasShapeOf}
use Rattle.lxr_invariant.specs.Lines.{HasMarks, IsMarkOf}
use Rattle.lxr_invariant.proofs.PlaceLemmas.{same_object}
use Rattle.lxr_core_invariant.proofs.PauseLemmas.{AreUnmoved, HaveOnePause}

-- ---- shapes

-- the object that an unreclaimed name had at the last pause
pub record HadShape (last : Graph) (n : Name) (o : Object) : Type 0 where
  pub before : Object
  pub is : object_at last n ≡ Some before
  pub shape : HasShapeOf o before

-- there was one, of the shape of what it has now
had_shape : (m : Moment) (n : Name) (o : Object) → FollowsPause m → IsTrue (has m.unreclaimed n) → object_at m.state.graph n ≡ Some o → HadShape m.last.graph n o
had_shape m n o follows member there =
    let a = follows.objects n member in
    record { before = a.0; is = a.2; shape = subst (λ z. HasShapeOf z a.0) (same_object m.state.graph n a.1 o a.3 there) a.4 }

-- an unreclaimed name has objects of one size in two moments since one pause
pub same_size : (m k : Moment) (n : Name) (o : Object) → FollowsPause m → FollowsPause k → k.last ≡ m.last → IsTrue (has m.unreclaimed n) → IsTrue (has k.unreclaimed n) → object_at k.state.graph n ≡ Some o
    → (a : Object) × (object_at m.state.graph n ≡ Some a) × (granules_of o ≡ granules_of a)
same_size m k n o was now last in_m in_k there =
    let old = was.objects n in_m in
    let had = had_shape k n o now in_k there in
    let same : had.before ≡ old.0 = same_object m.last.graph n had.before old.0 (sym (ap (λ z. object_at z.graph n) last) ∙ had.is) old.2 in
    let shape : HasShapeOf o old.0 = subst (λ z. HasShapeOf o z) same had.shape in
    let a = shape.refs in let b = shape.values in let c = old.4.refs in let d = old.4.values in
    (old.1, old.3, omega (arith, a, b, c, d))

-- ---- marks

-- a mark of an object is that of another as long at the same place
mark_of_same : (at to : Name → ℕ) (n : Name) (o a : Object) (k : ℕ) → to n ≡ at n → granules_of o ≡ granules_of a → IsMarkOf to n o k → IsMarkOf at n a k
mark_of_same at to n o a k still size mark =
    let behind = mark.behind in let within = mark.within in
    record { begins = mark.begins; behind = omega (arith, behind, still); within = omega (arith, within, still, size) }

-- line marks are those of objects as long as they were, where they were
pub marks_unmoved : (t : Tables) (m k : Moment) (at to : Name → ℕ) → FollowsPause m → FollowsPause k → HaveOnePause m k → AreUnmoved m.unreclaimed at to → HasMarks t m.state.graph at m.unreclaimed
    → HasMarks t k.state.graph to k.unreclaimed
marks_unmoved t m k at to was now one still is =
    let in_m : (n : Name) → IsTrue (has k.unreclaimed n) → IsTrue (has m.unreclaimed n) = λ n h. subst (λ z. IsTrue (has z n)) one.unreclaimed h in
    let in_k : (n : Name) → IsTrue (has m.unreclaimed n) → IsTrue (has k.unreclaimed n) = λ n h. subst (λ z. IsTrue (has z n)) (sym one.unreclaimed) h in
    record {
      marked = λ n o g h there mark.
          let a = same_size m k n o was now one.last (in_m n h) h there in
          is.marked n a.0 g (in_m n h) a.1 (mark_of_same at to n o a.0 g (still n (in_m n h)) a.2 mark);
      elsewhere = λ g none bare. is.elsewhere g (λ n h e. none n (in_k n h) (ap granule_of (still n h) ∙ e)) (λ n o h there mark.
          let a = same_size k m n o now was (sym one.last) (in_k n h) h there in
          bare n a.0 (in_k n h) a.1 (mark_of_same to at n o a.0 g (sym (still n h)) a.2 mark));
    }
