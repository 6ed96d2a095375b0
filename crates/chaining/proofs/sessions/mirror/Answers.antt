-- `mirror` meets its contract. Assumes nothing.
use Rattle.chaining.specs.Benches.{state_of}
use Rattle.chaining.specs.Mirrors.{Mirrored}
use Rattle.chaining.proofs.Law.{session_law, mirrored, all_given_back}
use Rattle.chaining.proofs.sessions.mirror.Goals as goal

pub returns : goal.returns
returns g c =
    let ran : Mirrored (g.A.Cipher.map c.args.first) (g.B.Cipher.map c.args.second) c.args.calls.now c.serve-2.new.calls (state_of g.A.Cipher.map c.serve.new.bench) (state_of g.B.Cipher.map c.serve-2.new.bench) =
    mirrored _ _ _ c.serve.new.calls _ _ _ _ _ c.new-there.ensures c.serve.ensures c.turned-back.ensures c.serve-2.ensures in
    record { ran = ran; given_back = all_given_back _ _ _ _ _ _ ran; law = session_law }
