use Rattle.std.proofs.Common.{append_assoc}
use Rattle.slate_objects.proofs.Writing.{on_ok}
use Rattle.slate_objects.proofs.manifests.write_untracked.Goals as goal

pub returns : goal.returns
returns c =
    let e1 = c.in_ok-write.ensures in
    let e2 = c.in_ok-write-2.ensures in
    let e3 = c.in_ok-write-3.ensures in
    let e4 = c.in_ok-write-4.ensures in
    let e5 = c.in_ok-write-5.ensures in
    let e6 = c.in_ok-write-6.ensures in
    let e7 = c.in_ok-write-7.ensures in
    let e8 = c.in_ok-write-8.ensures in
    let e9 = c.in_ok-write-9.ensures in
    on_ok c.write-10.result c.write-10.ensures (λ e10. (
      rw (e10.0, e9.0, e8.0, e7.0, e6.0, e5.0, e4.0, e3.0, e2.0, e1.0) (simp append_assoc),
      (e1.1, (tt, (e3.1, (e4.1, (e5.1, (e6.1, (e7.1, (e8.1, (e9.1, e10.1))))))))),
    ))
