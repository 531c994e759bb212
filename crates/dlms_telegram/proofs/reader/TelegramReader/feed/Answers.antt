use Rattle.dlms_telegram.proofs.FeedLemmas.{takes_of}
use Rattle.dlms_telegram.proofs.reader.TelegramReader.feed.Goals as goal

pub returns-clause-takes : goal.returns-clause-takes
returns-clause-takes c =
    takes_of c.args.self.now c.forget.new.self c.take_all.new.self c.args.octets.now c.take_all.result
    c.forget.ensures c.take_all.ensures.kept c.take_all.ensures.count
