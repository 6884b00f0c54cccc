use Rattle.std.proofs.Common.{take}
use Rattle.std.specs.Io.KnownBytes.{Appends}
use Rattle.std.proofs.KnownBytes.{Appends-kept}
use Rattle.streams.specs.Fronts.{AppendsFront}
use Rattle.snapmap.proofs.Drawn.{drawn, on_ok, front_kept}
use Rattle.snapmap.proofs.draw_input.Goals as goal

pub returns-in_err-write_full-clause-front : goal.returns-in_err-write_full-clause-front
returns-in_err-write_full-clause-front g c =
    drawn (AppendsFront (g.W.Write.contents c.args.writer.now) (g.W.Write.contents c.write_full.new.writer)) (g.R.Read.remaining c.args.reader.now)
    c.args.pages (take c.in_ok-count.count c.read_full.new.buf) _ c.in_ok-count.ensures.bytes c.put_map-size.ensures.out_after
    c.in_err-write_full.ensures.front

pub returns-clause-all : goal.returns-clause-all
returns-clause-all g c = λ within.
    on_ok c.flush.result
    (drawn (Appends (g.W.Write.contents c.args.writer.now) (g.W.Write.contents c.flush.new.self)) (g.R.Read.remaining c.args.reader.now)
    c.args.pages (take c.in_ok-count.count c.read_full.new.buf) _ c.in_ok-count.ensures.bytes c.put_map-size.ensures.out_after
    (Appends-kept _ _ _ _ c.in_ok-write_full.ensures.all c.flush.ensures.bytes))

pub returns-clause-front : goal.returns-clause-front
returns-clause-front g c =
    drawn (AppendsFront (g.W.Write.contents c.args.writer.now) (g.W.Write.contents c.flush.new.self)) (g.R.Read.remaining c.args.reader.now)
    c.args.pages (take c.in_ok-count.count c.read_full.new.buf) _ c.in_ok-count.ensures.bytes c.put_map-size.ensures.out_after
    (front_kept _ _ _ _ c.in_ok-write_full.ensures.front c.flush.ensures.bytes)
